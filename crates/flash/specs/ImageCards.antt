-- The card in a run of bytes: its shape, its good blocks, and what is read from it.
-- None of it asks anything of the bytes: what is behind their last whole block is not on the card.
use Rattle.std.specs.Prelude.{◌≡◌, ℕ, ◌+◌, ◌-◌, ◌*◌, ◌/◌, ◌^◌, ◌<◌, ◌≤◌, Bool, true, false, ◌&&◌, List, length, take, drop, replicate, Some, None, nat_le, nat_lt}
use Rattle.std.proofs.Common.{sym, ap, ◌∙◌, inl, inr, mul-le-mul_right, div-mul-le_self, arith}
use Rattle.std.proofs.lemmas.List.{get_or-replicate, get_or_past, take-take, drop-take, drop-drop, length-replicate}
use Rattle.std.proofs.lemmas.Bool.{cases_lt, lt-ltb, le-ltb}
use Rattle.std.proofs.lemmas.Bool.Decides.{nat_tests}
use Rattle.flash.specs.Card.{Shaped, bytes, is_good}
use Rattle.flash.specs.Write.{part}
use Rattle.flash.specs.Device.{read_refusal}
use Rattle.flash.specs.Image.{blocks_of, blocks_in, image_card}
use Rattle.flash.specs.declared.Refusal.TheVariants.{Outside}
use Rattle.flash.specs.Images.{length_blocks, block_lies, block_within, length_block}

-- the blocks of a run lie inside it
pub blocks_within : (size n : ℕ) → blocks_in size n * size ≤ n
blocks_within size n =
    let m : blocks_in size n * size ≤ n / size * size = mul-le-mul_right {m = blocks_in size n} {n = n / size} size (omega arith) in
    let d : n / size * size ≤ n = div-mul-le_self n size in
    omega arith

-- so the card is of the right shape
pub image_shaped : (size : ℕ) (xs : List ℕ) → Shaped (image_card size xs)
image_shaped size xs =
    let n : ℕ = blocks_in size (length xs) in
    let count : length (blocks_of size n xs) ≡ n = length_blocks size n xs in
    let within : n * size ≤ length xs = blocks_within size (length xs) in
    record { long = λ b h. length_block size n xs b (rw count at h) within; marked = length-replicate n true ∙ sym count }

-- a block is good exactly if it is there
pub image_good : (size : ℕ) (xs : List ℕ) (b : ℕ) → is_good (image_card size xs) b ≡ nat_lt b (blocks_in size (length xs))
image_good size xs b =
    let n : ℕ = blocks_in size (length xs) in
    elim (cases_lt b n) [
      | inl h ↦ get_or-replicate n b true false h ∙ sym (lt-ltb b n h)
      | inr h ↦ get_or_past (replicate n true) b false (omega (arith, length-replicate n true)) ∙ sym (le-ltb b n h)
    ]

-- whether m bytes from an offset of a block on lie inside it
abbrev pub inside : ℕ → List ℕ → ℕ → ℕ → ℕ → Bool
inside size xs b at m = nat_lt b (blocks_in size (length xs)) && nat_le (at + m) size

pub inside_from : (size : ℕ) (xs : List ℕ) (b at m : ℕ) → inside size xs b at m ≡ true → (b < blocks_in size (length xs)) × (at + m ≤ size)
inside_from size xs b at m h = (grind (arith, nat_tests), grind (arith, nat_tests))

-- a part of a block lies in the run behind the blocks before it
pub image_part : (size : ℕ) (xs : List ℕ) (b at m : ℕ) → inside size xs b at m ≡ true → part (bytes (image_card size xs) b) at m ≡ take m (drop (b * size + at) xs)
image_part size xs b at m h =
    let n : ℕ = blocks_in size (length xs) in
    let p = inside_from size xs b at m h in
    let ys : List ℕ = drop (b * size) xs in
    let is : bytes (image_card size xs) b ≡ take size ys = block_lies size n xs b p.0 in
    let s : at + (size - at) ≡ size = omega (arith, p.1) in
    let d : drop at (take (at + (size - at)) ys) ≡ take (size - at) (drop at ys) = drop-take at (size - at) ys in
    let t : take m (take (size - at) (drop at ys)) ≡ take m (drop at ys) = take-take m (size - at) (drop at ys) (omega (arith, p.1)) in
    let j : drop at ys ≡ drop (b * size + at) xs = drop-drop at (b * size) xs in
    cc

-- and inside the run
pub image_within : (size : ℕ) (xs : List ℕ) (b at m : ℕ) → inside size xs b at m ≡ true → b * size + at + m ≤ length xs
image_within size xs b at m h =
    let p = inside_from size xs b at m h in
    omega (arith, p.1, block_within size (blocks_in size (length xs)) b p.0, blocks_within size (length xs))

-- why a read is refused
pub image_read : (size : ℕ) (xs : List ℕ) (b at m : ℕ) → inside size xs b at m ≡ true → read_refusal (image_card size xs) b at m ≡ None
unfolding read_refusal
image_read size xs b at m h = rw length_blocks (grind (arith, nat_tests))

pub image_outside : (size : ℕ) (xs : List ℕ) (b at m : ℕ) → inside size xs b at m ≡ false → read_refusal (image_card size xs) b at m ≡ Some Outside
unfolding read_refusal
image_outside size xs b at m h = rw length_blocks (grind (arith, nat_tests))

-- the card of a whole number of blocks is exactly these blocks
pub image_whole : (size : ℕ) (xs : List ℕ) → length xs / size < 2 ^ 32 → image_card size xs ≡ record { size = size; blocks = blocks_of size (length xs / size) xs; good = replicate (length xs / size) true; dark = false }
image_whole size xs l =
    let n : blocks_in size (length xs) ≡ length xs / size = omega arith in
    ap (λ k. record { size = size; blocks = blocks_of size k xs; good = replicate k true; dark = false }) n
