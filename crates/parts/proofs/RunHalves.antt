-- A write that stops half way: what it leaves in the cells, that this is a mix of old and new bytes, and so that a chip
-- which does exactly what is written of it answers as every device must.
use Rattle.std.proofs.Common.{◌≡◌, ℕ, ◌+◌, ◌-◌, ◌*◌, ◌/◌, ◌≤◌, Bool, true, false, ◌||◌, eqb, List, [], ◌++◌, length, get_or, take, drop, replicate, None, Ok, Err, Result, sym, refl, ap, ◌∙◌, inl, inr, zero-add, arith, rules}
use lib.Seq.{paste}
use Rattle.std.proofs.lemmas.List.{places, take-take, take-replicate, length-take}
use Rattle.std.proofs.lemmas.List.Edits.{length-paste}
use Rattle.std.proofs.lemmas.Bool.{cases_lt, eqb-true}
use Rattle.flash.specs.Card.{Card, Shaped, bytes, put, darkened}
use Rattle.flash.specs.Image.{blocks_of}
use Rattle.flash.specs.Device.{Answers}
use Rattle.flash.specs.Write.{Write, program, erase, target, intended, refusal, written, Mixed}
use Rattle.flash.specs.declared.Refusal.{Refusal}
use Rattle.flash.specs.declared.Refusal.TheVariants.{Dark}
use Rattle.flash.proofs.Refusals.{may_program, may_erase}
use Rattle.parts.specs.Cells.{card, Replaces}
use Rattle.parts.specs.Chip.{Chip, chip, halfway, torn, Writes}
use Rattle.parts.specs.Cards.{card_shaped, card_replaced}

-- the first m bytes of a part in the place of all n are a mix
pub paste_mixed : (xs u : List ℕ) (at n m : ℕ) → at + n ≤ length xs → n ≤ length u → m ≤ n → Mixed xs (paste xs at u n) (paste xs at u m)
paste_mixed xs u at n m h l j =
    record {
      long = length-paste xs at u m (omega arith) (omega arith);
      byte = λ k _. elim (cases_lt k (at + m)) [ inl p ↦ inr (grind (arith, places)) | inr p ↦ inl (grind (arith, places)) ];
    }

-- the first m bytes of a block erased are a mix
pub erased_mixed : (xs : List ℕ) (n m : ℕ) → length xs ≡ n → m ≤ n → Mixed xs (replicate n 0xff) (replicate m 0xff ++ drop m xs)
erased_mixed xs n m l j =
    record {
      long = search (rules, places);
      byte = λ k _. elim (cases_lt k m) [ inl p ↦ inr (grind (arith, places)) | inr p ↦ inl (grind (arith, places)) ];
    }

-- what a torn write leaves is a mix of what was there and what it was to leave
pub halfway_mixed : (c : Card) (w : Write) → Shaped c → refusal c w ≡ None → Mixed (bytes c (target w)) (intended c w) (halfway c w)
halfway_mixed c (program b at u) s h =
    let may = may_program c b at u h in
    let long = s.long b may.block in
    let inside = may.inside in
    let sixteen = may.sixteen in
    paste_mixed (bytes c b) u at 16 8 (omega arith) (omega arith) (omega arith)
halfway_mixed c (erase b) s h =
    let may = may_erase c b h in
    erased_mixed (bytes c b) c.size (c.size / 2) (s.long b may.block) (omega arith)

-- a chip that does what is written of it answers as every device must
pub writes_answers : {T : Type 0} (x : Chip) (w : Write) (r : Result T Refusal) (y : Chip) → Shaped x.card → Writes x w r y → Answers x.card w r y.card (λ _. Unit {0}) (λ _. Unit {0})
writes_answers x w (Ok _) y s p = (p.0, ap (λ z. z.card) p.2, record { each = λ _ _. tt })
writes_answers x w (Err e) y s (inl p) = inl (p.0, ap (λ z. z.card) p.1, record { each = λ _ _. tt })
writes_answers x w (Err e) y s (inr p) =
    inr (
      p.2,
      p.0,
      record { left = halfway x.card w; mixed = halfway_mixed x.card w s p.0; is = ap (λ z. z.card) p.3 },
      record { each = λ _ _. tt },
    )

-- bytes of 0xff put at the front of a block
pub paste_erased : (old : List ℕ) (n : ℕ) → paste old 0 (replicate n 0xff) n ≡ replicate n 0xff ++ drop n old
paste_erased old n = let all = take-replicate {X = ℕ} n n 0xff (omega arith) in rw (all, zero-add n)

-- the first half of a unit put into a block is a torn program
pub program_torn : (size count b at size' count' : ℕ) (u v xs xs' : List ℕ) (good : List Bool) (dark : Bool) → length u ≡ 16 → v ≡ take 8 u → Replaces size count xs b (λ old. paste old at v (length v)) size' count' xs' → card size' count' xs' good true ≡ torn (card size count xs good dark) (program b at u)
program_torn size count b at size' count' u v xs xs' good dark e h r =
    let old : List ℕ = get_or (blocks_of size count xs) b [] in
    let long : length v ≡ 8 = ap length h ∙ simp length-take (omega arith) in
    let same : paste old at v (length v) ≡ paste old at u 8 = ap (paste old at v) long ∙ ap (λ ys. take at old ++ take 8 ys ++ drop (at + 8) old) h ∙ ap (λ ys. take at old ++ ys ++ drop (at + 8) old) (take-take 8 8 u (omega arith)) in
    card_replaced size count b size' count' _ xs xs' good true r
    ∙ ap (λ new. darkened (put (card size count xs good dark) b new)) same

-- the first half of a block erased is a torn erase
pub erase_torn : (size count b n size' count' : ℕ) (xs xs' : List ℕ) (good : List Bool) (dark : Bool) → n ≡ size / 2 → Replaces size count xs b (λ old. paste old 0 (replicate n 0xff) n) size' count' xs' → card size' count' xs' good true ≡ torn (card size count xs good dark) (erase b)
erase_torn size count b n size' count' xs xs' good dark h r =
    let old : List ℕ = get_or (blocks_of size count xs) b [] in
    let same : paste old 0 (replicate n 0xff) n ≡ replicate (size / 2) 0xff ++ drop (size / 2) old = ap (λ k. paste old 0 (replicate k 0xff) k) h ∙ paste_erased old (size / 2) in
    card_replaced size count b size' count' _ xs xs' good true r
    ∙ ap (λ new. darkened (put (card size count xs good dark) b new)) same

-- both promises of a chip: it answers as every device must, and does exactly what is written of it
abbrev pub Both : Chip → Write → Result (Unit {0}) Refusal → Chip → Type 0
Both x w r y = Answers x.card w r y.card (λ _. Unit {0}) (λ _. Unit {0}) × Writes x w r y

-- the cells and the power after a write in which the power went are the chip that was to be
pub cut_exactly : (size count left size' count' left' : ℕ) (xs xs' : List ℕ) (good : List Bool) (dark dark' : Bool) (w : Write) → length xs ≡ count * size → length good ≡ count → dark ≡ false → refusal (card size count xs good false) w ≡ None → true ≡ eqb left 1 → left' ≡ left - 1 → dark' ≡ (dark || true) → card size' count' xs' good true ≡ torn (card size count xs good dark) w → Both (chip (card size count xs good dark) left) w (Err Dark) (chip (card size' count' xs' good dark') left')
cut_exactly size count left size' count' left' xs xs' good dark dark' w whole marked lit may goes spent gone e =
    let none : left' ≡ 0 = omega (arith, eqb-true left 1 (sym goes)) in
    let now : dark' ≡ true = gone ∙ ap (λ d. d || true) lit in
    let x : Chip = chip (card size count xs good dark) left in
    let y : Chip = chip (card size' count' xs' good dark') left' in
    let same : y ≡ chip (torn (card size count xs good dark) w) 0 = cc in
    let exact : Writes {T = Unit {0}} x w (Err Dark) y = inr (ap (λ d. refusal (card size count xs good d) w) lit ∙ may, sym goes, refl, same) in
    (writes_answers {T = Unit {0}} x w (Err Dark) y (card_shaped size count xs good dark whole marked) exact, exact)

-- the cells and the power after a write that was done are the chip that was to be
pub done_exactly : (size count left size' count' left' : ℕ) (xs xs' : List ℕ) (good : List Bool) (dark dark' : Bool) (w : Write) → length xs ≡ count * size → length good ≡ count → dark ≡ false → refusal (card size count xs good false) w ≡ None → false ≡ eqb left 1 → left' ≡ left - 1 → dark' ≡ (dark || false) → card size' count' xs' good dark ≡ written (card size count xs good dark) w → Both (chip (card size count xs good dark) left) w (Ok tt) (chip (card size' count' xs' good dark') left')
done_exactly size count left size' count' left' xs xs' good dark dark' w whole marked lit may stays spent gone e =
    let now : dark' ≡ dark = gone ∙ ap (λ d. d || false) lit ∙ sym lit in
    let x : Chip = chip (card size count xs good dark) left in
    let y : Chip = chip (card size' count' xs' good dark') left' in
    let same : y ≡ chip (written (card size count xs good dark) w) (left - 1) = cc in
    let exact : Writes {T = Unit {0}} x w (Ok tt) y = (ap (λ d. refusal (card size count xs good d) w) lit ∙ may, sym stays, same) in
    (writes_answers {T = Unit {0}} x w (Ok tt) y (card_shaped size count xs good dark whole marked) exact, exact)
