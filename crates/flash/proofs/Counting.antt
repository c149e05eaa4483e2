-- Counts that go with a history: one event more, or none.
-- From them the answers of a recorder, whose histories are those of the device below that its counts tell too.
use Rattle.std.proofs.Common.{◌≡◌, ◌+◌, Bool, true, false, cond, List, [], ◌∷◌, ◌++◌, Ok, Err, Result, sym, ap, ◌∙◌, subst, inl, inr, append-nil, add_assoc, zero-add, arith}
use Rattle.flash.specs.Card.{Card}
use Rattle.std.proofs.lemmas.Bool.{false≢true, both_ways}
use Rattle.flash.specs.Write.{Write, program, erase}
use Rattle.flash.specs.History.{Operation, write, power_up, Event, event, Histories, Extends}
use Rattle.flash.specs.Device.{Answers}
use Rattle.flash.specs.Counts.{count_of, tallied, not_refused, Counted, recorded, Account}
use Rattle.flash.specs.declared.Refusal.{Refusal}
use Rattle.flash.specs.declared.counts.Counts.{Counts}
use Rattle.flash.proofs.Refusals.{accepted_powered}

pub count_append : (kind : Operation → Bool) (es fs : List Event) → count_of kind (es ++ fs) ≡ count_of kind es + count_of kind fs
count_append kind [] fs = sym (zero-add (count_of kind fs))
count_append kind (e ∷ es) fs = ap (λ n. cond (kind e.asked) 1 0 + n) (count_append kind es fs) ∙ sym (add_assoc (cond (kind e.asked) 1 0) (count_of kind es) (count_of kind fs))

-- one event more
counted_more : (o : Operation) (c d : Card) (n : Counts) (h : List Event) → Counted n h → Counted (tallied o n) (h ++ event c o d ∷ [])
counted_more (write (program b at u)) c d n h k = record {
  programmed = rw count_append (omega (arith, k.programmed));
  erased = rw count_append (omega (arith, k.erased));
  taken_up = rw count_append (omega (arith, k.taken_up));
}
counted_more (write (erase b)) c d n h k = record {
  programmed = rw count_append (omega (arith, k.programmed));
  erased = rw count_append (omega (arith, k.erased));
  taken_up = rw count_append (omega (arith, k.taken_up));
}
counted_more power_up c d n h k = record {
  programmed = rw count_append (omega (arith, k.programmed));
  erased = rw count_append (omega (arith, k.erased));
  taken_up = rw count_append (omega (arith, k.taken_up));
}

pub recorded_more : {N₀ N₁ : Histories} (c : Card) (o : Operation) (d : Card) (n : Counts) → Extends N₀ N₁ (event c o d ∷ []) → Extends (recorded N₀ n) (recorded N₁ (tallied o n)) (event c o d ∷ [])
recorded_more c o d n a = record { each = λ h k. (a.each h k.0, counted_more o c d n h k.1) }

-- none
pub recorded_none : {N₀ N₁ : Histories} (n : Counts) → Extends N₀ N₁ [] → Extends (recorded N₀ n) (recorded N₁ n) []
recorded_none n a = record { each = λ h k. (a.each h k.0, subst (Counted n) (sym (append-nil h)) k.1) }

-- the answer to a write, with the counts in the histories: where it was not refused it is counted
pub answers_counted : {T : Type 0} (c : Card) (w : Write) (r : Result T Refusal) (d : Card) (N₀ N₁ : Histories) (n : Counts) → true ≡ not_refused r c.dark d.dark → Answers c w r d N₀ N₁ → Answers c w r d (recorded N₀ n) (recorded N₁ (tallied (write w) n))
answers_counted c w (Ok _) d N₀ N₁ n k h = (h.0, h.1, recorded_more c (write w) d n h.2)
answers_counted c w (Err e) d N₀ N₁ n k (inl h) =
    let same : d.dark ≡ c.dark = ap (λ x. x.dark) h.1 in elim (both_ways c.dark (grind arith) (grind arith)) [ ]
answers_counted c w (Err e) d N₀ N₁ n k (inr h) = inr (h.0, h.1, h.2, recorded_more c (write w) d n h.3)

-- and where it was refused it is not
pub answers_uncounted : {T : Type 0} (c : Card) (w : Write) (r : Result T Refusal) (d : Card) (N₀ N₁ : Histories) (n : Counts) → false ≡ not_refused r c.dark d.dark → Answers c w r d N₀ N₁ → Answers c w r d (recorded N₀ n) (recorded N₁ n)
answers_uncounted c w (Ok _) d N₀ N₁ n k h = elim (false≢true k) [ ]
answers_uncounted c w (Err e) d N₀ N₁ n k (inl h) = inl (h.0, h.1, recorded_none n h.2)
answers_uncounted c w (Err e) d N₀ N₁ n k (inr h) =
    let was : c.dark ≡ false = accepted_powered c w h.1 in
    let is : d.dark ≡ true = ap (λ x. x.dark) h.2.is in
    elim (false≢true (k ∙ grind arith)) [ ]

-- the counts of a recorder that began with no event
pub account : (N₀ N₁ : Histories) (n m : Counts) → Account (recorded N₀ n) (recorded N₁ m) m
account N₀ N₁ n m = record { tells = λ es h a. (a.each [] h).1 }
