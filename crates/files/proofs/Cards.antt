-- What a read of a card gives.
use Rattle.std.proofs.Common.{◌≡◌, ℕ, ◌+◌, ◌<◌, ◌≤◌, true, false, List, length, get_or, drop, Some, None, ap, ◌∙◌, ⊎_elim, add-zero, arith}
use Rattle.std.proofs.lemmas.List.{get_or-take, get_or-drop, get_or_past}
use Rattle.std.proofs.lemmas.Bool.{cases_lt, both_ways}
use Rattle.std.proofs.lemmas.Bool.Decides.{nat_tests}
use Rattle.flash.specs.Card.{Card, Shaped, is_good}
use Rattle.flash.specs.Write.{part}
use Rattle.flash.specs.Device.{read_refusal}
use Rattle.flash.specs.declared.Refusal.{Refusal}
use Rattle.metalog.specs.Tag.{le32}
use Rattle.volume.specs.Sizes.{Fit}
use Rattle.files.specs.Steps.{Within}

-- ---- reads

-- what can be read is not refused
pub within_reads : (c : Card) (b at n : ℕ) → Within c b (at + n) → read_refusal c b at n ≡ None
unfolding read_refusal
within_reads c b at n w = grind (arith, nat_tests)

pub within_not_refused : (c : Card) (b at n : ℕ) (e : Refusal) → read_refusal c b at n ≡ Some e → Within c b (at + n) → ⊥
within_not_refused c b at n e h w =
    let none = within_reads c b at n w in
    let bad : ◌≡◌ {A = ℕ} 0 1 = cc in
    omega arith

-- a word of four bytes, where they stand
word_read : (xs : List ℕ) (at : ℕ) → le32 (part xs at 4) 0 ≡ le32 xs at
word_read xs at =
    let one : (k : ℕ) → k < 4 → get_or (part xs at 4) k 0 ≡ get_or xs (at + k) 0 = λ k h. get_or-take 4 (drop at xs) k 0 h ∙ get_or-drop at xs k 0 in
    rw (one 0 (omega arith), one 1 (omega arith), one 2 (omega arith), one 3 (omega arith), add-zero at)

-- four bytes that were read make the word
pub word_of_read : (xs ys : List ℕ) (at : ℕ) → ys ≡ part xs at 4 → le32 ys 0 ≡ le32 xs at
word_of_read xs ys at e = ap (λ (zs : List ℕ). le32 zs 0) e ∙ word_read xs at

-- a good block is on the card
pub good_there : (c : Card) (b : ℕ) → Shaped c → is_good c b ≡ true → b < length c.blocks
good_there c b shaped good =
    ⊎_elim (λ l. l)
    (λ l. absurd (both_ways (is_good c b) (get_or_past c.good b false (omega (arith, shaped.marked))) good))
    (cases_lt b (length c.blocks))

-- a good block of a card that answers can be read, up to its first 512 bytes
pub good_within : (c : Card) (b end : ℕ) → Shaped c → Fit c → is_good c b ≡ true → end ≤ 512 → Within c b end
good_within c b end shaped fit good le = record { powered = fit.powered; block = good_there c b shaped good; inside = omega (arith, fit.wide) }

-- there is room for a good block in a set
pub good_room : (c : Card) (b : ℕ) → Shaped c → Fit c → is_good c b ≡ true → b < 4096
good_room c b shaped fit good = omega (arith, good_there c b shaped good, fit.few)
