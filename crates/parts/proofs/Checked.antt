-- Why a request to a card that cells hold is refused, from what the code tests, and which bytes a read gets: what is said of any
-- run of bytes, for the run of some cells.
use Rattle.std.proofs.Common.{◌≡◌, ℕ, ◌+◌, ◌*◌, ◌%◌, ◌<◌, ◌≤◌, Bool, true, false, ◌&&◌, eqb, ltb, leb, List, [], length, get_or, take, drop, Some, None, vec_items}
use Rattle.flash.specs.Card.{Card}
use Rattle.flash.specs.Device.{read_refusal}
use Rattle.flash.specs.Write.{program, erase, part, is_erased, refusal}
use Rattle.flash.specs.declared.Refusal.TheVariants.{Dark, Outside, Bad, Used}
use Rattle.flash.specs.declared.geometry.Geometry.{Geometry}
use Rattle.parts.specs.Cells.{blocks_held, card_held, IsInside}
use Rattle.parts.specs.declared.cells.Cells.{Cells}
use Rattle.parts.proofs.RunChecked as run

-- the bytes of a block from an offset on are bytes of the run
pub part_lies : (x : Cells) (b at n : ℕ) → IsInside x.geometry b at n → take n (drop (b * x.geometry.block_size + at) (vec_items x.bytes)) ≡ part (get_or (blocks_held x) b []) at n
part_lies x b at n h = run.part_lies x.geometry.block_size x.geometry.block_count b at n (vec_items x.bytes) h.0 h.1 x.whole

-- a dark card refuses every read
pub read_dark : (c : Card) (b at n : ℕ) → c.dark ≡ true → read_refusal c b at n ≡ Some Dark
read_dark c b at n h = run.read_dark c b at n h

-- a read is refused exactly if it reaches outside
pub read_outside : (x : Cells) (b at n : ℕ) (good : List Bool) → (ltb b x.geometry.block_count && leb (at + n) x.geometry.block_size) ≡ false → read_refusal (card_held x good false) b at n ≡ Some Outside
read_outside x b at n good h = run.read_outside x.geometry.block_size x.geometry.block_count b at n (vec_items x.bytes) good h

pub read_inside : (x : Cells) (b at n : ℕ) (good : List Bool) → (ltb b x.geometry.block_count && leb (at + n) x.geometry.block_size) ≡ true → read_refusal (card_held x good false) b at n ≡ None
read_inside x b at n good h = run.read_inside x.geometry.block_size x.geometry.block_count b at n (vec_items x.bytes) good h

-- the reasons to refuse an erase
pub erase_outside : (x : Cells) (b : ℕ) (good : List Bool) → x.geometry.block_count ≤ b → refusal (card_held x good false) (erase b) ≡ Some Outside
erase_outside x b good h = run.erase_outside x.geometry.block_size x.geometry.block_count b (vec_items x.bytes) good h

pub erase_bad : (x : Cells) (b : ℕ) (good : List Bool) → b < x.geometry.block_count → get_or good b false ≡ false → refusal (card_held x good false) (erase b) ≡ Some Bad
erase_bad x b good h g = run.erase_bad x.geometry.block_size x.geometry.block_count b (vec_items x.bytes) good h g

pub erase_passes : (x : Cells) (b : ℕ) (good : List Bool) → b < x.geometry.block_count → get_or good b false ≡ true → refusal (card_held x good false) (erase b) ≡ None
erase_passes x b good h g = run.erase_passes x.geometry.block_size x.geometry.block_count b (vec_items x.bytes) good h g

-- whether n bytes are a unit, as the code tests it
abbrev pub is_unit_of : Geometry → ℕ → ℕ → ℕ → Bool
is_unit_of g b at n = ltb b g.block_count && (eqb n 16 && (eqb (at % 16) 0 && leb (at + 16) g.block_size))

-- the reasons to refuse a program
pub program_outside : (x : Cells) (b at : ℕ) (u : List ℕ) (good : List Bool) → is_unit_of x.geometry b at (length u) ≡ false → refusal (card_held x good false) (program b at u) ≡ Some Outside
program_outside x b at u good h = run.program_outside x.geometry.block_size x.geometry.block_count b at u (vec_items x.bytes) good h

pub program_bad : (x : Cells) (b at : ℕ) (u : List ℕ) (good : List Bool) → is_unit_of x.geometry b at (length u) ≡ true → get_or good b false ≡ false → refusal (card_held x good false) (program b at u) ≡ Some Bad
program_bad x b at u good h g = run.program_bad x.geometry.block_size x.geometry.block_count b at u (vec_items x.bytes) good h g

pub program_used : (x : Cells) (b at : ℕ) (u : List ℕ) (good : List Bool) → is_unit_of x.geometry b at (length u) ≡ true → get_or good b false ≡ true → is_erased (part (get_or (blocks_held x) b []) at 16) ≡ false → refusal (card_held x good false) (program b at u) ≡ Some Used
program_used x b at u good h g e = run.program_used x.geometry.block_size x.geometry.block_count b at u (vec_items x.bytes) good h g e

pub program_passes : (x : Cells) (b at : ℕ) (u : List ℕ) (good : List Bool) → is_unit_of x.geometry b at (length u) ≡ true → get_or good b false ≡ true → is_erased (part (get_or (blocks_held x) b []) at 16) ≡ true → refusal (card_held x good false) (program b at u) ≡ None
program_passes x b at u good h g e = run.program_passes x.geometry.block_size x.geometry.block_count b at u (vec_items x.bytes) good h g e
