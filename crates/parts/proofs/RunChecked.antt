-- Why a request to a card that a run of bytes holds is refused, from what the code tests; and which bytes a read gets.
use Rattle.std.proofs.Common.{◌≡◌, ℕ, ◌+◌, ◌*◌, ◌%◌, ◌<◌, ◌≤◌, Bool, true, false, ◌&&◌, eqb, ltb, leb, List, [], length, get_or, take, drop, Some, None, sym, ap, ◌∙◌, arith, rules}
use Rattle.std.proofs.lemmas.List.{places, same_lists}
use Rattle.std.proofs.lemmas.Bool.Decides.{nat_tests}
use Rattle.flash.specs.Card.{Card}
use Rattle.flash.specs.Device.{read_refusal}
use Rattle.flash.specs.Image.{blocks_of}
use Rattle.flash.specs.Write.{program, erase, part, is_erased, refusal}
use Rattle.flash.specs.declared.Refusal.TheVariants.{Dark, Outside, Bad, Used}
use Rattle.flash.specs.Images.{length_blocks, block_lies, block_within}
use Rattle.parts.specs.Cells.{card}

-- the bytes of a block from an offset on are bytes of the run
pub part_lies : (size count b at n : ℕ) (xs : List ℕ) → b < count → at + n ≤ size → length xs ≡ count * size → take n (drop (b * size + at) xs) ≡ part (get_or (blocks_of size count xs) b []) at n
part_lies size count b at n xs h w e =
    let within = block_within size count b h in
    same_lists _ _ (search (rules, places)) (λ k d _. grind (arith, places))
    ∙ ap (λ ys. part ys at n) (sym (block_lies size count xs b h))

-- a dark card refuses every read
pub read_dark : (c : Card) (b at n : ℕ) → c.dark ≡ true → read_refusal c b at n ≡ Some Dark
unfolding read_refusal
read_dark c b at n h = grind (arith, nat_tests)

-- a read is refused exactly if it reaches outside
pub read_outside : (size count b at n : ℕ) (xs : List ℕ) (good : List Bool) → (ltb b count && leb (at + n) size) ≡ false → read_refusal (card size count xs good false) b at n ≡ Some Outside
unfolding read_refusal
read_outside size count b at n xs good h = rw length_blocks (grind (arith, nat_tests))

pub read_inside : (size count b at n : ℕ) (xs : List ℕ) (good : List Bool) → (ltb b count && leb (at + n) size) ≡ true → read_refusal (card size count xs good false) b at n ≡ None
unfolding read_refusal
read_inside size count b at n xs good h = rw length_blocks (grind (arith, nat_tests))

-- the reasons to refuse an erase
pub erase_outside : (size count b : ℕ) (xs : List ℕ) (good : List Bool) → count ≤ b → refusal (card size count xs good false) (erase b) ≡ Some Outside
unfolding refusal
erase_outside size count b xs good h = rw length_blocks (grind (arith, nat_tests))

pub erase_bad : (size count b : ℕ) (xs : List ℕ) (good : List Bool) → b < count → get_or good b false ≡ false → refusal (card size count xs good false) (erase b) ≡ Some Bad
unfolding refusal
erase_bad size count b xs good h g = rw length_blocks (grind (arith, nat_tests))

pub erase_passes : (size count b : ℕ) (xs : List ℕ) (good : List Bool) → b < count → get_or good b false ≡ true → refusal (card size count xs good false) (erase b) ≡ None
unfolding refusal
erase_passes size count b xs good h g = rw length_blocks (grind (arith, nat_tests))

-- whether n bytes are a unit, as the code tests it
abbrev pub is_unit_of : ℕ → ℕ → ℕ → ℕ → ℕ → Bool
is_unit_of size count b at n = ltb b count && (eqb n 16 && (eqb (at % 16) 0 && leb (at + 16) size))

-- the reasons to refuse a program
pub program_outside : (size count b at : ℕ) (u xs : List ℕ) (good : List Bool) → is_unit_of size count b at (length u) ≡ false → refusal (card size count xs good false) (program b at u) ≡ Some Outside
unfolding refusal
program_outside size count b at u xs good h = rw length_blocks (grind (arith, nat_tests))

pub program_bad : (size count b at : ℕ) (u xs : List ℕ) (good : List Bool) → is_unit_of size count b at (length u) ≡ true → get_or good b false ≡ false → refusal (card size count xs good false) (program b at u) ≡ Some Bad
unfolding refusal
program_bad size count b at u xs good h g = rw length_blocks (grind (arith, nat_tests))

pub program_used : (size count b at : ℕ) (u xs : List ℕ) (good : List Bool) → is_unit_of size count b at (length u) ≡ true → get_or good b false ≡ true → is_erased (part (get_or (blocks_of size count xs) b []) at 16) ≡ false → refusal (card size count xs good false) (program b at u) ≡ Some Used
unfolding refusal
program_used size count b at u xs good h g e = rw length_blocks (grind (arith, nat_tests))

pub program_passes : (size count b at : ℕ) (u xs : List ℕ) (good : List Bool) → is_unit_of size count b at (length u) ≡ true → get_or good b false ≡ true → is_erased (part (get_or (blocks_of size count xs) b []) at 16) ≡ true → refusal (card size count xs good false) (program b at u) ≡ None
unfolding refusal
program_passes size count b at u xs good h g e = rw length_blocks (grind (arith, nat_tests))
