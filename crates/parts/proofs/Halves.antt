-- A write that stops half way in some cells, and a chip that holds them: what is said of any run of bytes, for the run of the cells.
use Rattle.std.proofs.Common.{◌≡◌, ℕ, ◌-◌, ◌/◌, Bool, true, false, ◌||◌, eqb, List, length, take, replicate, vec_items, None, Ok, Err}
use lib.Seq.{paste}
use Rattle.flash.specs.Write.{Write, program, erase, refusal, written}
use Rattle.flash.specs.declared.Refusal.TheVariants.{Dark}
use Rattle.parts.specs.Cells.{card_held, Rewrites}
use Rattle.parts.specs.declared.cells.Cells.{Cells}
use Rattle.parts.specs.Chip.{chip, torn}
use Rattle.parts.specs.Held.{replaces}
use Rattle.parts.proofs.RunHalves.{Both}
use Rattle.parts.proofs.RunHalves as run

-- the first half of a unit put into a block is a torn program
pub program_torn : (old : Cells) (b at : ℕ) (u v : List ℕ) (new : Cells) (good : List Bool) (dark : Bool) → length u ≡ 16 → v ≡ take 8 u → Rewrites old b (λ xs. paste xs at v (length v)) new → card_held new good true ≡ torn (card_held old good dark) (program b at u)
program_torn old b at u v new good dark e h r = run.program_torn _ _ b at _ _ u v _ _ good dark e h (replaces old b _ new r)

-- the first half of a block erased is a torn erase
pub erase_torn : (old : Cells) (b n : ℕ) (new : Cells) (good : List Bool) (dark : Bool) → n ≡ old.geometry.block_size / 2 → Rewrites old b (λ xs. paste xs 0 (replicate n 0xff) n) new → card_held new good true ≡ torn (card_held old good dark) (erase b)
erase_torn old b n new good dark h r = run.erase_torn _ _ b n _ _ _ _ good dark h (replaces old b _ new r)

-- the cells and the power after a write in which the power went are the chip that was to be
pub cut_exactly : (old new : Cells) (left left' : ℕ) (good : List Bool) (dark dark' : Bool) (w : Write) → length good ≡ old.geometry.block_count → dark ≡ false → refusal (card_held old good false) w ≡ None → true ≡ eqb left 1 → left' ≡ left - 1 → dark' ≡ (dark || true) → card_held new good true ≡ torn (card_held old good dark) w → Both (chip (card_held old good dark) left) w (Err Dark) (chip (card_held new good dark') left')
cut_exactly old new left left' good dark dark' w marked lit may goes spent gone e =
    run.cut_exactly old.geometry.block_size old.geometry.block_count left new.geometry.block_size new.geometry.block_count left' (vec_items old.bytes) (vec_items new.bytes) good dark dark' w old.whole marked lit may goes spent gone e

-- the cells and the power after a write that was done are the chip that was to be
pub done_exactly : (old new : Cells) (left left' : ℕ) (good : List Bool) (dark dark' : Bool) (w : Write) → length good ≡ old.geometry.block_count → dark ≡ false → refusal (card_held old good false) w ≡ None → false ≡ eqb left 1 → left' ≡ left - 1 → dark' ≡ (dark || false) → card_held new good dark ≡ written (card_held old good dark) w → Both (chip (card_held old good dark) left) w (Ok tt) (chip (card_held new good dark') left')
done_exactly old new left left' good dark dark' w marked lit may stays spent gone e =
    run.done_exactly old.geometry.block_size old.geometry.block_count left new.geometry.block_size new.geometry.block_count left' (vec_items old.bytes) (vec_items new.bytes) good dark dark' w old.whole marked lit may stays spent gone e
