-- What a flash card is: the bytes of its blocks, which blocks are good, and whether the power is gone.
-- Every definition of every layer above speaks of a card; a device is known by the card that it means.
use Rattle.std.specs.Prelude.{◌≡◌, ℕ, ◌<◌, Bool, true, false, List, [], length, slice_index_or, slice_set}

pub record Card : Type 0 where
  -- how many bytes a block has
  pub size : ℕ
  -- the bytes of each block
  pub blocks : List (List ℕ)
  -- whether each block is good: a block that is not good takes no write
  pub good : List Bool
  -- whether the power is gone: a dark card answers no request until it is powered up again
  pub dark : Bool

-- every block has `size` bytes, and every block is marked good or not
pub record Shaped (c : Card) : Type 0 where
  pub long : (b : ℕ) → b < length c.blocks → length (slice_index_or c.blocks b []) ≡ c.size
  pub marked : length c.good ≡ length c.blocks

-- the bytes of block b, none where the card has no such block
abbrev pub bytes : Card → ℕ → List ℕ
bytes c b = slice_index_or c.blocks b []

-- whether block b is there and good
abbrev pub is_good : Card → ℕ → Bool
is_good c b = slice_index_or c.good b false

-- the card with other bytes in block b
abbrev pub put : Card → ℕ → List ℕ → Card
put c b xs = record { size = c.size; blocks = slice_set c.blocks b xs; good = c.good; dark = c.dark }

-- the card with its power gone
abbrev pub darkened : Card → Card
darkened c = record { size = c.size; blocks = c.blocks; good = c.good; dark = true }

-- the card powered up again: the same bytes, the same good blocks
abbrev pub lit : Card → Card
lit c = record { size = c.size; blocks = c.blocks; good = c.good; dark = false }
