-- The theorems on a run of bytes as a card, said of cells.
use Rattle.std.specs.Prelude.{◌≡◌, ℕ, ◌*◌, ◌<◌, Bool, false, List, length, replicate, vec_items}
use Rattle.std.proofs.Common.{ap}
use Rattle.std.proofs.Math.Seq.{paste}
use Rattle.flash.specs.Card.{Shaped, bytes, put}
use Rattle.flash.specs.Write.{program, erase, written}
use Rattle.parts.specs.Cells.{card_held, fresh, Replaces, Rewrites}
use Rattle.parts.specs.Cards.{card_shaped, card_fresh, card_image, card_replaced, program_done, erase_done}
use Rattle.parts.specs.declared.cells.Cells.{Cells}
use Rattle.parts.specs.Memory.{ImageOf}

-- a mark for each block makes the cells a card of the right shape
pub held_shaped : (x : Cells) (good : List Bool) (dark : Bool) → length good ≡ x.geometry.block_count → Shaped (card_held x good dark)
held_shaped x good dark g = card_shaped _ _ _ good dark x.whole g

-- cells of 0xff are an erased card
pub held_fresh : (x : Cells) (size count : ℕ) (good good' : List Bool) → x.geometry ≡ record { block_size = size; block_count = count } → vec_items x.bytes ≡ replicate (count * size) 0xff → good' ≡ good → card_held x good' false ≡ fresh size count good
held_fresh x size count good good' cut e g =
    card_fresh size count _ _ _ good good' (ap (λ y. y.block_size) cut) (ap (λ y. y.block_count) cut) e g

-- the run is the image of its card
pub held_image : (x : Cells) (ys : List ℕ) (good : List Bool) (dark : Bool) → ys ≡ vec_items x.bytes → ImageOf (card_held x good dark) ys
held_image x ys good dark is = card_image _ _ _ ys good dark x.whole is

-- a block replaced in the cells is one replaced in their run
pub replaces : (old : Cells) (b : ℕ) (f : List ℕ → List ℕ) (new : Cells) → Rewrites old b f new → Replaces old.geometry.block_size old.geometry.block_count (vec_items old.bytes) b f new.geometry.block_size new.geometry.block_count (vec_items new.bytes)
replaces old b f new r =
    let size = ap (λ g. g.block_size) r.same_geometry in
    let count = ap (λ g. g.block_count) r.same_geometry in
    let blocks = r.blocks in
    record { same_size = size; same_count = count; blocks = cc }

-- a block replaced in the cells is a block replaced on the card
pub held_replaced : (old : Cells) (b : ℕ) (f : List ℕ → List ℕ) (new : Cells) (good : List Bool) (dark : Bool) → Rewrites old b f new → card_held new good dark ≡ put (card_held old good dark) b (f (bytes (card_held old good dark) b))
held_replaced old b f new good dark r = card_replaced _ _ b _ _ f _ _ good dark (replaces old b f new r)

-- a whole unit put into a block is a program that was done
pub held_programmed : (old : Cells) (b at : ℕ) (u : List ℕ) (new : Cells) (good : List Bool) (dark : Bool) → length u ≡ 16 → Rewrites old b (λ xs. paste xs at u (length u)) new → card_held new good dark ≡ written (card_held old good dark) (program b at u)
held_programmed old b at u new good dark e r = program_done _ _ b at _ _ u _ _ good dark e (replaces old b _ new r)

-- a whole block set to 0xff is an erase that was done
pub held_erased : (old : Cells) (b n : ℕ) (new : Cells) (good : List Bool) (dark : Bool) → n ≡ old.geometry.block_size → b < old.geometry.block_count → Rewrites old b (λ xs. paste xs 0 (replicate n 0xff) n) new → card_held new good dark ≡ written (card_held old good dark) (erase b)
held_erased old b n new good dark all h r = erase_done _ _ b n _ _ _ _ good dark all h old.whole (replaces old b _ new r)
