-- Asking for the programs of a content one after the other: one unit more, the unit at which the device stopped, and the
-- end. What the content leaves in its block, and that units which are free are never refused.
use Rattle.std.proofs.Common.{◌≡◌, ℕ, suc, ◌+◌, ◌-◌, ◌*◌, ◌/◌, ◌%◌, ◌<◌, ◌≤◌, true, false, List, [], ◌∷◌, ◌++◌, length, take, drop, Some, None, Ok, Err, Result, sym, ap, ◌∙◌, subst, inl, inr, arith, length-append, length-drop}
use Rattle.std.proofs.Math.Seq.{take-append_seam, drop-append_seam}
use Rattle.std.proofs.lemmas.List.{drop-drop}
use lib.Seq.{paste}
use Rattle.std.proofs.lemmas.Bool.Decides.{nat_tests}
use Rattle.flash.specs.Card.{Card, Shaped, bytes, put}
use Rattle.flash.specs.Write.{Write, program}
use Rattle.flash.specs.History.{Histories}
use Rattle.flash.specs.Device.{Answers}
use Rattle.flash.specs.Runs.{after, Accepted, Finished, Runs, units, programs, fits, unfit, Tried}
use Rattle.flash.specs.Contents.{pasted, Pasted, is_free, Unhindered, TakesFree}
use Rattle.flash.specs.declared.Refusal.{Refusal}
use Rattle.flash.proofs.Refusals.{accepted_not_refused}
use Rattle.flash.proofs.Sequences.{accepted_rest, finished_one, finished_join, runs_behind, runs_stopped}
use Rattle.flash.proofs.Units.{units_append, units_after, Free, free_accepted}

-- the first k units of the content were programmed, and the bytes `rest` are left
pub record UnitsDone (b at k : ℕ) (content rest : List ℕ) (c d : Card) (old new : Histories) : Type 0 where
  pub within : 16 * k ≤ length content
  pub left : rest ≡ drop (16 * k) content
  pub done : Finished (units b at k content) c d old new

-- the unit u is the next one
next_unit : (k : ℕ) (content rest u others : List ℕ) → rest ≡ drop (16 * k) content → rest ≡ u ++ others → length u ≡ 16 → (u ≡ take 16 (drop (16 * k) content)) × (others ≡ drop (16 * (k + 1)) content) × (16 * k + 16 ≤ length content)
next_unit k content rest u others l e n =
    let whole : u ++ others ≡ drop (16 * k) content = sym e ∙ l in
    let front : take 16 (u ++ others) ≡ u = ap (λ m. take m (u ++ others)) (sym n) ∙ take-append_seam u others in
    let behind : drop 16 (u ++ others) ≡ others = ap (λ m. drop m (u ++ others)) (sym n) ∙ drop-append_seam u others in
    let s : 16 + 16 * k ≡ 16 * (k + 1) = omega arith in (
      sym front ∙ ap (take 16) whole,
      sym behind ∙ ap (drop 16) whole ∙ drop-drop 16 (16 * k) content ∙ ap (λ m. drop m content) (omega arith),
      omega (arith, simp (length-append, length-drop) at (ap length whole)),
    )

-- one unit more was programmed
pub units_more : (b at k o : ℕ) (content rest u others : List ℕ) (c w d : Card) (N₀ N₁ N₂ : Histories) → UnitsDone b at k content rest c w N₀ N₁ → rest ≡ u ++ others → length u ≡ 16 → o ≡ at + 16 * k → Answers {T = Unit {0}} w (program b o u) (Ok tt) d N₁ N₂ → UnitsDone b at (k + 1) content others c d N₀ N₂
units_more b at k o content rest u others c w d N₀ N₁ N₂ p e n place q =
    let x = next_unit k content rest u others p.left e n in
    let one : Finished (program b o u ∷ []) w d N₁ N₂ = finished_one q.0 q.1 q.2 in
    let s : units b at (k + 1) content ≡ units b at k content ++ program b o u ∷ [] = rw (place, x.0) (units_append b at k 1 content) in
    record { within = omega (arith, x.2); left = x.1; done = subst (λ ws. Finished ws c d N₀ N₂) (sym s) (finished_join p.done one) }

-- the unit behind those that were programmed was refused, or the power went in it
pub units_stop : (b at k o : ℕ) (content rest u others : List ℕ) (e : Refusal) (c w d : Card) (N₀ N₁ N₂ : Histories) → length content % 16 ≡ 0 → UnitsDone b at k content rest c w N₀ N₁ → rest ≡ u ++ others → length u ≡ 16 → o ≡ at + 16 * k → Answers {T = Unit {0}} w (program b o u) (Err e) d N₁ N₂ → Runs {T = Unit {0}} (programs b at content) c (Err e) d N₀ N₂
units_stop b at k o content rest u others e c w d N₀ N₁ N₂ m p is n place q =
    let x = next_unit k content rest u others p.left is n in
    let more : length content / 16 ≡ k + suc (length content / 16 - k - 1) = omega (arith, x.2) in
    let behind : List Write = units b (at + 16 * k + 16) (length content / 16 - k - 1) (drop 16 (drop (16 * k) content)) in
    let s : programs b at content ≡ units b at k content ++ program b o u ∷ behind = rw (place, x.0) (ap (λ y. units b at y content) more ∙ units_append b at k (suc (length content / 16 - k - 1)) content) in
    subst (λ ws. Runs {T = Unit {0}} ws c (Err e) d N₀ N₂) (sym s) (runs_behind {T = Unit {0}} (program b o u ∷ behind) (Err e) d N₂ p.done (runs_stopped w (program b o u) behind e d N₁ N₂ q))

-- what `unfit` says where it finds no reason
pub fits_from : (c : Card) (at n : ℕ) → unfit c at n ≡ None → (c.dark ≡ false) × (n % 16 ≡ 0) × (at + n ≤ c.size)
unfolding unfit
fits_from c at n h = (grind (arith, nat_tests), grind (arith, nat_tests), grind (arith, nat_tests))

-- and where it finds one
pub unfit_because : (c : Card) (at n : ℕ) (e : Refusal) → unfit c at n ≡ Some e → c.dark ≡ false → fits c at n ≡ false
unfolding unfit
unfit_because c at n e h l = grind (arith, nat_tests)

-- programs that were all done: the content stands in its place
pub finished_pasted : (c : Card) (b at : ℕ) (content : List ℕ) (d : Card) (N₀ N₁ : Histories) → Shaped c → length content % 16 ≡ 0 → Finished (programs b at content) c d N₀ N₁ → d ≡ pasted c b at content
finished_pasted c b at content d N₀ N₁ s m p =
    let k : 16 * (length content / 16) ≡ length content = omega arith in
    p.is ∙ units_after c b at (length content / 16) content (s.long b) (sym k) p.accepted ∙ ap (λ n. put c b (paste (bytes c b) at content n)) k

-- free units as facts
pub free_from : (c : Card) (b at n : ℕ) → Shaped c → c.dark ≡ false → is_free c b at n ≡ true → Free c b at (n / 16)
free_from c b at n s l h =
    let k : 16 * (n / 16) ≡ n = grind (arith, nat_tests) in
    let lt : b < length c.blocks = grind (arith, nat_tests) in
    record {
      powered = l;
      block = lt;
      good = grind (arith, nat_tests);
      aligned = grind (arith, nat_tests);
      inside = grind (arith, nat_tests);
      long = s.long b lt;
      blank = grind (arith, nat_tests);
    }

-- writes that are accepted are not refused
pub accepted_unhindered : {T : Type 0} (ws : List Write) (c : Card) (r : Result T Refusal) (d : Card) (N₀ N₁ : Histories) → Accepted c ws → Runs ws c r d N₀ N₁ → Unhindered ws c r d N₀ N₁
accepted_unhindered ws c (Ok _) d N₀ N₁ h q = q
accepted_unhindered ws c (Err e) d N₀ N₁ h (inr q) = q
accepted_unhindered ws c (Err e) d N₀ N₁ h (inl q) =
    let k : Accepted c (q.front ++ q.w ∷ q.rest) = subst (Accepted c) q.splits h in
    elim (accepted_not_refused (after c q.front) q.w e (accepted_rest c q.front (q.w ∷ q.rest) k).0 q.because) [ ]

-- free units are never refused
pub free_unhindered : {T : Type 0} (c : Card) (b at : ℕ) (content : List ℕ) (r : Result T Refusal) (d : Card) (N₀ N₁ : Histories) → Free c b at (length content / 16) → Runs (programs b at content) c r d N₀ N₁ → Unhindered (programs b at content) c r d N₀ N₁
free_unhindered c b at content r d N₀ N₁ f q = accepted_unhindered (programs b at content) c r d N₀ N₁ (free_accepted c b at (length content / 16) content f (omega arith)) q

-- writes that fit, and were then asked for
pub tried_from_runs : {T : Type 0} (at n : ℕ) (ws : List Write) (c : Card) (r : Result T Refusal) (d : Card) (N₀ N₁ : Histories) → unfit c at n ≡ None → Runs ws c r d N₀ N₁ → Tried at n ws c r d N₀ N₁
tried_from_runs at n ws c (Ok _) d N₀ N₁ u q = (u, q)
tried_from_runs at n ws c (Err e) d N₀ N₁ u q = inr (u, q)

pub pasted_from_runs : {T : Type 0} (c : Card) (b at : ℕ) (content : List ℕ) (r : Result T Refusal) (d : Card) (N₀ N₁ : Histories) → Shaped c → length content % 16 ≡ 0 → Runs (programs b at content) c r d N₀ N₁ → Pasted c b at content r d
pasted_from_runs c b at content (Ok _) d N₀ N₁ s m q = finished_pasted c b at content d N₀ N₁ s m q
pasted_from_runs c b at content (Err e) d N₀ N₁ s m q = tt

pub takes_free : {T : Type 0} (c : Card) (b at : ℕ) (content : List ℕ) (r : Result T Refusal) (d : Card) (N₀ N₁ : Histories) → Shaped c → Runs (programs b at content) c r d N₀ N₁ → TakesFree c b at content r d N₀ N₁
takes_free c b at content r d N₀ N₁ s q l h = free_unhindered c b at content r d N₀ N₁ (free_from c b at (length content) s l h) q

-- free units fit
pub free_fits : (c : Card) (b at n : ℕ) → c.dark ≡ false → is_free c b at n ≡ true → unfit c at n ≡ None
unfolding unfit
free_fits c b at n l h = grind (arith, nat_tests)

-- there is a reason or there is none
pub unfit_settled : (c : Card) (at n : ℕ) {e : Refusal} → unfit c at n ≡ None → unfit c at n ≡ Some e → ⊥
unfit_settled c at n h k = grind arith
