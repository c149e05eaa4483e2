-- A block that is erased and then filled: no unit behind the erase is refused, and the block holds the content in the end.
-- The lemmas on the outcome say this for each way that the call may end.
use Rattle.std.proofs.Common.{◌≡◌, ℕ, ◌+◌, ◌-◌, ◌*◌, ◌/◌, ◌%◌, ◌<◌, ◌≤◌, ◌⊎◌, List, [], ◌∷◌, length, take, drop, replicate, Some, None, Ok, Err, Option, Result, sym, refl, ap, ◌∙◌, subst, inl, inr, zero-add, arith, length-set}
use lib.ListN.{length-replicate}
use lib.Seq.{paste}
use Rattle.std.proofs.lemmas.List.{take_all, drop-replicate}
use Rattle.flash.specs.Card.{Card, Shaped, bytes, put}
use Rattle.flash.specs.Write.{erase, refusal, written}
use Rattle.flash.specs.History.{Histories}
use Rattle.flash.specs.Device.{Answers}
use Rattle.flash.specs.Runs.{Finished, Runs, programs, unfit, Tried, filled}
use Rattle.flash.specs.Contents.{pasted, Unhindered, rewrites, first_of, block_refusal, WroteBlock}
use Rattle.flash.specs.declared.Refusal.{Refusal}
use Rattle.flash.proofs.Blank.{erased_replicate, erased_take}
use Rattle.flash.proofs.Refusals.{MayErase, may_erase}
use Rattle.flash.proofs.Events.{extends_none}
use Rattle.flash.proofs.Sequences.{finished_one, finished_join, interrupted_behind}
use Rattle.flash.proofs.Units.{bytes_put, put_put, Free}
use Rattle.flash.proofs.Filling.{fits_from, finished_pasted, free_unhindered}

-- an erased block is free from its start on
pub erased_free : (c : Card) (b n : ℕ) → refusal c (erase b) ≡ None → n % 16 ≡ 0 → n ≤ c.size → Free (written c (erase b)) b 0 (n / 16)
erased_free c b n h m l =
    let may : MayErase c b = may_erase c b h in
    let blank : List ℕ = replicate c.size 0xff in
    let is : bytes (put c b blank) b ≡ blank = bytes_put c b blank may.block in
    record {
      powered = may.powered;
      block = rw length-set may.block;
      good = may.good;
      aligned = refl;
      inside = omega arith;
      long = ap length is ∙ length-replicate c.size 0xff;
      blank = rw is (erased_take (16 * (n / 16)) blank (erased_replicate c.size));
    }

-- a content over an erased block, and the same as `filled`
pub pasted_filled : (c : Card) (b : ℕ) (content : List ℕ) → b < length c.blocks → pasted (written c (erase b)) b 0 content ≡ put c b (filled c content)
pasted_filled c b content l =
    let blank : List ℕ = replicate c.size 0xff in
    let is : bytes (put c b blank) b ≡ blank = bytes_put c b blank l in
    let t : take (length content) content ≡ content = take_all (length content) content (omega arith) in
    let z : 0 + length content ≡ length content = zero-add (length content) in
    let d : drop (length content) blank ≡ replicate (c.size - length content) 0xff = drop-replicate (length content) c.size 0xff in
    let p : paste (bytes (put c b blank) b) 0 content (length content) ≡ filled c content = cc in
    put_put c b blank (paste (bytes (put c b blank) b) 0 content (length content)) ∙ ap (put c b) p

-- the reasons of `block_refusal`, the first found
pub block_refusal_unfit : (c : Card) (b n : ℕ) (e : Refusal) → unfit c 0 n ≡ Some e → block_refusal c b n ≡ Some e
block_refusal_unfit c b n e h = ap (λ o. first_of o (refusal c (erase b))) h

pub block_refusal_erase : (c : Card) (b n : ℕ) (o : Option Refusal) → unfit c 0 n ≡ None → refusal c (erase b) ≡ o → block_refusal c b n ≡ o
block_refusal_erase c b n o h k = ap (λ x. first_of x (refusal c (erase b))) h ∙ k

-- refused before the erase
pub wrote_unfit : (c : Card) (b : ℕ) (content : List ℕ) (e : Refusal) (N : Histories) → unfit c 0 (length content) ≡ Some e → WroteBlock {T = Unit {0}} c b content (Err e) c N N
wrote_unfit c b content e N h = inl (block_refusal_unfit c b (length content) e h, record { is = refl; adds = extends_none N })

-- the erase was refused, or the power went in it
pub wrote_not_erased : (c : Card) (b : ℕ) (content : List ℕ) (e : Refusal) (d : Card) (N₀ N₁ : Histories) → unfit c 0 (length content) ≡ None → Answers {T = Unit {0}} c (erase b) (Err e) d N₀ N₁ → WroteBlock {T = Unit {0}} c b content (Err e) d N₀ N₁
wrote_not_erased c b content e d N₀ N₁ u (inl q) = inl (block_refusal_erase c b (length content) (Some e) u q.0, record { is = q.1; adds = q.2 })
wrote_not_erased c b content e d N₀ N₁ u (inr q) = inr (q.0, block_refusal_erase c b (length content) None u q.1, record { front = []; w = erase b; rest = programs b 0 content; splits = refl; accepted = tt; may = q.1; torn = q.2; adds = q.3 })

-- what the units did behind an erase that was done
pub wrote_units : {T : Type 0} (c : Card) (b : ℕ) (content : List ℕ) (w : Card) (r : Result T Refusal) (d : Card) (N₀ N₁ N₂ : Histories) → Shaped w → unfit c 0 (length content) ≡ None → Answers {T = Unit {0}} c (erase b) (Ok tt) w N₀ N₁ → Runs (programs b 0 content) w r d N₁ N₂ → WroteBlock c b content r d N₀ N₂
wrote_units {T} c b content w r d N₀ N₁ N₂ s u h q =
    let fit = fits_from c 0 (length content) u in
    let free : Free w b 0 (length content / 16) = subst (λ x. Free x b 0 (length content / 16)) (sym h.1) (erased_free c b (length content) h.0 fit.1 (omega (arith, fit.2))) in
    ends r (free_unhindered w b 0 content r d N₁ N₂ free q)
  where
    erased : Finished (erase b ∷ []) c w N₀ N₁
    erased = finished_one h.0 h.1 h.2

    none : block_refusal c b (length content) ≡ None
    none = block_refusal_erase c b (length content) None u h.0

    ends : {T : Type 0} (r : Result T Refusal) → Unhindered (programs b 0 content) w r d N₁ N₂ → WroteBlock c b content r d N₀ N₂
    ends (Ok _) k = (none, finished_pasted w b 0 content d N₁ N₂ s (fits_from c 0 (length content) u).1 k ∙ ap (λ x. pasted x b 0 content) h.1 ∙ pasted_filled c b content (may_erase c b h.0).block, finished_join erased k)
    ends (Err e) k = inr (k.0, none, interrupted_behind erased k.1)

-- where there is no reason among two, there is none before
pub first_none : (o p : Option Refusal) → first_of o p ≡ None → o ≡ None
first_none None p h = refl
first_none (Some e) p h = h

-- a reason among two is the first, or the second where there is no first
pub first_some : (o p : Option Refusal) (e : Refusal) → first_of o p ≡ Some e → (o ≡ Some e) ⊎ ((o ≡ None) × (p ≡ Some e))
first_some None p e h = inr (refl, h)
first_some (Some x) p e h = inl h

-- what writing a block asks of the device, as a run of its writes
pub tried_from_wrote : {T : Type 0} (c : Card) (b : ℕ) (content : List ℕ) (r : Result T Refusal) (d : Card) (N₀ N₁ : Histories) → WroteBlock c b content r d N₀ N₁ → Tried 0 (length content) (rewrites b content) c r d N₀ N₁
tried_from_wrote c b content (Ok _) d N₀ N₁ h = (first_none (unfit c 0 (length content)) (refusal c (erase b)) h.0, h.2)
tried_from_wrote c b content (Err e) d N₀ N₁ (inr h) = inr (first_none (unfit c 0 (length content)) (refusal c (erase b)) h.1, inr (h.0, h.2))
tried_from_wrote c b content (Err e) d N₀ N₁ (inl h) =
    elim (first_some (unfit c 0 (length content)) (refusal c (erase b)) e h.0) [
      | inl u ↦ inl (u, h.1)
      | inr u ↦ inr (u.0, inl (record { front = []; w = erase b; rest = programs b 0 content; splits = refl; accepted = tt; because = u.1; is = h.1.is; adds = h.1.adds }))
    ]

-- both promises of writing a block, from the one
pub record Outcome {T : Type 0} (c : Card) (b : ℕ) (content : List ℕ) (r : Result T Refusal) (d : Card) (N₀ N₁ : Histories) : Type 0 where
  pub asked : Tried 0 (length content) (rewrites b content) c r d N₀ N₁
  pub wrote : WroteBlock c b content r d N₀ N₁

outcome : {T : Type 0} (c : Card) (b : ℕ) (content : List ℕ) (r : Result T Refusal) (d : Card) (N₀ N₁ : Histories) → WroteBlock c b content r d N₀ N₁ → Outcome c b content r d N₀ N₁
outcome c b content r d N₀ N₁ w = record { asked = tried_from_wrote c b content r d N₀ N₁ w; wrote = w }

pub outcome_unfit : (c : Card) (b : ℕ) (content : List ℕ) (e : Refusal) (N : Histories) → unfit c 0 (length content) ≡ Some e → Outcome {T = Unit {0}} c b content (Err e) c N N
outcome_unfit c b content e N h = outcome c b content (Err e) c N N (wrote_unfit c b content e N h)

pub outcome_not_erased : (c : Card) (b : ℕ) (content : List ℕ) (e : Refusal) (d : Card) (N₀ N₁ : Histories) → unfit c 0 (length content) ≡ None → Answers {T = Unit {0}} c (erase b) (Err e) d N₀ N₁ → Outcome {T = Unit {0}} c b content (Err e) d N₀ N₁
outcome_not_erased c b content e d N₀ N₁ u q = outcome c b content (Err e) d N₀ N₁ (wrote_not_erased c b content e d N₀ N₁ u q)

pub outcome_units : {T : Type 0} (c : Card) (b : ℕ) (content : List ℕ) (w : Card) (r : Result T Refusal) (d : Card) (N₀ N₁ N₂ : Histories) → Shaped w → unfit c 0 (length content) ≡ None → Answers {T = Unit {0}} c (erase b) (Ok tt) w N₀ N₁ → Runs (programs b 0 content) w r d N₁ N₂ → Outcome c b content r d N₀ N₂
outcome_units c b content w r d N₀ N₁ N₂ s u h q = outcome c b content r d N₀ N₂ (wrote_units c b content w r d N₀ N₁ N₂ s u h q)
