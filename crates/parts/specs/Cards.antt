-- A run of bytes as a card: its shape, the erased card, and the card after a change of one block.
use Rattle.std.specs.Prelude.{◌≡◌, ℕ, ◌*◌, ◌<◌, Bool, true, false, List, [], length, get_or, replicate, nat_lt, slice_index_or}
use Rattle.std.proofs.Common.{sym, ap, ◌∙◌, arith, rules, inl, inr}
use Rattle.std.proofs.Math.Seq.{paste}
use Rattle.std.proofs.lemmas.List.{places, same_lists, get_or-replicate, get_or_past, length-replicate}
use Rattle.std.proofs.lemmas.Bool.{cases_lt, lt-ltb, le-ltb}
use Rattle.flash.specs.Card.{Shaped, bytes, put}
use Rattle.flash.specs.Image.{blocks_of}
use Rattle.flash.specs.Write.{program, erase, written}
use Rattle.flash.specs.Images.{length_blocks, length_block, blocks_replicate}
use Rattle.parts.specs.Cells.{card, fresh, Replaces}
use Rattle.parts.specs.Memory.{ImageOf}

-- a run of the right length is a card of the right shape
pub card_shaped : (size count : ℕ) (xs : List ℕ) (good : List Bool) (dark : Bool) → length xs ≡ count * size → length good ≡ count → Shaped (card size count xs good dark)
card_shaped size count xs good dark e g =
    let n = length_blocks size count xs in
    record { long = λ b h. length_block size count xs b (omega arith) (omega arith); marked = g ∙ sym n }

-- a run of 0xff is an erased card
pub card_fresh : (size count size' count' : ℕ) (xs : List ℕ) (good good' : List Bool) → size' ≡ size → count' ≡ count → xs ≡ replicate (count * size) 0xff → good' ≡ good → card size' count' xs good' false ≡ fresh size count good
card_fresh size count size' count' xs good good' s n e g = let erased = blocks_replicate size count 0xff in cc

-- the run is the image of its card
pub card_image : (size count : ℕ) (xs ys : List ℕ) (good : List Bool) (dark : Bool) → length xs ≡ count * size → ys ≡ xs → ImageOf (card size count xs good dark) ys
card_image size count xs ys good dark e is =
    let n = length_blocks size count xs in
    record {
      long = ap length is ∙ e ∙ ap (λ k. k * size) (sym n);
      blocks = ap (blocks_of size count) (sym is) ∙ ap (λ k. blocks_of size k ys) (sym n);
    }

-- where all blocks are good, a block is good exactly if it is there
pub all_good : (count b : ℕ) → slice_index_or (replicate count true) b false ≡ nat_lt b count
all_good count b = elim (cases_lt b count) [
  | inl h ↦ get_or-replicate count b true false h ∙ sym (lt-ltb b count h)
  | inr h ↦ get_or_past (replicate count true) b false (omega (arith, length-replicate count true)) ∙ sym (le-ltb b count h)
]

-- a block replaced in the run is a block replaced on the card
pub card_replaced : (size count b size' count' : ℕ) (f : List ℕ → List ℕ) (xs xs' : List ℕ) (good : List Bool) (dark : Bool) → Replaces size count xs b f size' count' xs' → card size' count' xs' good dark ≡ put (card size count xs good dark) b (f (bytes (card size count xs good dark) b))
card_replaced size count b size' count' f xs xs' good dark r =
    let s = r.same_size in
    let n = r.same_count in
    let bs = r.blocks in
    cc

-- bytes of 0xff over a whole block are the erased block
pub all_erased : (old : List ℕ) (size : ℕ) → length old ≡ size → paste old 0 (replicate size 0xff) size ≡ replicate size 0xff
all_erased old size e = same_lists _ _ (search (rules, places)) (λ k d _. grind (arith, places))

-- a whole unit put into a block is a program that was done
pub program_done : (size count b at size' count' : ℕ) (u xs xs' : List ℕ) (good : List Bool) (dark : Bool) → length u ≡ 16 → Replaces size count xs b (λ old. paste old at u (length u)) size' count' xs' → card size' count' xs' good dark ≡ written (card size count xs good dark) (program b at u)
program_done size count b at size' count' u xs xs' good dark e r =
    card_replaced size count b size' count' _ xs xs' good dark r
    ∙ ap (λ n. put (card size count xs good dark) b (paste (bytes (card size count xs good dark) b) at u n)) e

-- a whole block set to 0xff is an erase that was done
pub erase_done : (size count b n size' count' : ℕ) (xs xs' : List ℕ) (good : List Bool) (dark : Bool) → n ≡ size → b < count → length xs ≡ count * size → Replaces size count xs b (λ old. paste old 0 (replicate n 0xff) n) size' count' xs' → card size' count' xs' good dark ≡ written (card size count xs good dark) (erase b)
erase_done size count b n size' count' xs xs' good dark all h e r =
    let old : List ℕ = get_or (blocks_of size count xs) b [] in
    let long : length old ≡ size = length_block size count xs b h (omega arith) in
    card_replaced size count b size' count' _ xs xs' good dark r
    ∙ ap (λ k. put (card size count xs good dark) b (paste old 0 (replicate k 0xff) k)) all
    ∙ ap (put (card size count xs good dark) b) (all_erased old size long)
