-- What is asked of a card first: the size of its blocks.
use Rattle.std.specs.Prelude.{◌≡◌, ◌≤◌, true, false, cond, length, Some, None, Ok, Err, Result}
use Rattle.flash.specs.Card.{Card}
use Rattle.skiplist.specs.Sizes.{bytes_of}
use Rattle.skiplist.specs.declared.size.BlockSize.{BlockSize}
use Rattle.volume.specs.Check.{is_size}
use Rattle.volume.specs.declared.fault.What.{What}
use Rattle.volume.specs.declared.fault.What.TheVariants.{Dark, Size}

-- a card that answers reads, whose blocks have room for words and fit into a set
pub record Fit (c : Card) : Type 0 where
  pub powered : c.dark ≡ false
  pub wide : 512 ≤ c.size
  pub few : length c.blocks ≤ 4096

-- the size of a card's blocks; none, since the card is dark or is none
abbrev pub SizeTold : Card → Result BlockSize What → Type 0
SizeTold c (Ok size) = Fit c × (bytes_of size ≡ c.size) × (is_size c.size (length c.blocks) ≡ true)
SizeTold c (Err w) = cond c.dark (Some Dark) (cond (is_size c.size (length c.blocks)) None (Some Size)) ≡ Some w
