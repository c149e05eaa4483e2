-- The memory of a modelled part as a card: one run of bytes, cut into blocks of one size. What making a part answers,
-- and what the calls on its cells, which both parts share, answer and leave.
use Rattle.std.specs.Prelude.{◌≡◌, ℕ, ◌+◌, ◌<◌, ◌≤◌, Bool, true, false, ◌&&◌, List, [], replicate, Ok, Err, Result, nat_le, slice_index_or, slice_set, vec_items}
use Rattle.flash.specs.Card.{Card}
use Rattle.flash.specs.Image.{blocks_of}
use Rattle.flash.specs.declared.geometry.Geometry.{Geometry}
use Rattle.parts.specs.declared.cells.Cells.{Cells}
use Rattle.parts.specs.declared.unmade.Unmade.{Unmade}
use Rattle.parts.specs.declared.unmade.Unmade.TheVariants.{Memory, Size}

-- the card that a run of bytes holds
abbrev pub card : ℕ → ℕ → List ℕ → List Bool → Bool → Card
card size count bytes good dark = record { size = size; blocks = blocks_of size count bytes; good = good; dark = dark }

-- the blocks in the cells
abbrev pub blocks_held : Cells → List (List ℕ)
blocks_held x = blocks_of x.geometry.block_size x.geometry.block_count (vec_items x.bytes)

-- the card that the cells hold, with these blocks good, dark or not
abbrev pub card_held : Cells → List Bool → Bool → Card
card_held x good dark = record { size = x.geometry.block_size; blocks = blocks_held x; good = good; dark = dark }

-- an erased card that is not dark, with these blocks good
abbrev pub fresh : ℕ → ℕ → List Bool → Card
fresh size count good = record { size = size; blocks = replicate count (replicate size 0xff); good = good; dark = false }

-- whether a part may have blocks of this size, and this many
abbrev pub fits : ℕ → ℕ → Bool
fits size count = nat_le size 4096 && nat_le count 4096

-- what making a part answers: a part of which P holds; or no part, for its size or for want of memory
abbrev pub Makes : {T : Type 0} → ℕ → ℕ → (T → Type 0) → Result T Unmade → Type 0
Makes size count P (Ok x) = (fits size count ≡ true) × P x
Makes size count P (Err Size) = fits size count ≡ false
Makes size count P (Err Memory) = fits size count ≡ true

-- n bytes from an offset of block b on lie inside the block
abbrev pub IsInside : Geometry → ℕ → ℕ → ℕ → Type 0
IsInside g b at n = (b < g.block_count) × (at + n ≤ g.block_size)

-- The run of bytes after block b was replaced by what f makes of it; size and count stay.
pub record Replaces (size count : ℕ) (bytes : List ℕ) (b : ℕ) (f : List ℕ → List ℕ) (size' count' : ℕ) (bytes' : List ℕ) : Type 0 where
  pub same_size : size' ≡ size
  pub same_count : count' ≡ count
  pub blocks : blocks_of size count bytes' ≡ slice_set (blocks_of size count bytes) b (f (slice_index_or (blocks_of size count bytes) b []))

-- The cells after block b was replaced by what f makes of it; the blocks are as many and as long as before.
pub record Rewrites (old : Cells) (b : ℕ) (f : List ℕ → List ℕ) (new : Cells) : Type 0 where
  pub same_geometry : new.geometry ≡ old.geometry
  pub blocks : blocks_held new ≡ slice_set (blocks_held old) b (f (slice_index_or (blocks_held old) b []))
