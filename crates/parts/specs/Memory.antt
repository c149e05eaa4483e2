-- The card that a memory board means, and the image of a card as one run of bytes, which a host can write to a file
-- as it is.
use Rattle.std.specs.Prelude.{◌≡◌, ℕ, ◌*◌, true, false, List, length, replicate}
use Rattle.flash.specs.Card.{Card}
use Rattle.flash.specs.Image.{blocks_of}
use Rattle.parts.specs.Cells.{card_held}
use Rattle.parts.specs.declared.memory.MemoryBoard.{MemoryBoard}

-- the card of a memory board: the blocks in its cells, all good, never dark
abbrev pub card_of : MemoryBoard → Card
card_of b = card_held b.cells (replicate b.cells.geometry.block_count true) false

-- the bytes of a card, one block behind the other
pub record ImageOf (c : Card) (xs : List ℕ) : Type 0 where
  pub long : length xs ≡ length c.blocks * c.size
  pub blocks : c.blocks ≡ blocks_of c.size (length c.blocks) xs
