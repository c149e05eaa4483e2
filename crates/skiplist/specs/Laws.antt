-- Laws of the layout as a whole: known points, that a place stands once, that places follow one another, and that walks
-- are short. Each is the contract of a function of its own, so that it is proved.
use Rattle.std.specs.Prelude.{◌≡◌, ℕ, ◌+◌, ◌*◌, ◌^◌, ◌<◌, ◌≤◌, ◌⊎◌}
use Rattle.skiplist.specs.Sizes.{bytes_of}
use Rattle.skiplist.specs.Layout.{pointers_of, header_of, Stands}
use Rattle.skiplist.specs.Places.{file_limit, block_of, byte_of}
use Rattle.skiplist.specs.Strides.{Walk}
use Rattle.skiplist.specs.declared.size.BlockSize.{BlockSize}

-- the place p stands at the byte k of block n, by the formula and by the layout
pub record Known (s p n k : ℕ) : Type 0 where
  pub block : block_of s p ≡ n
  pub byte : byte_of s p ≡ k
  pub stands : Stands s p n k

-- The last byte of block 0, the first content bytes of blocks 1 and 2; how many words the first blocks begin with.
pub record KnownPlaces : Type 0 where
  pub last_of_zero : Known 512 511 0 511
  pub first_of_one : Known 512 512 1 4
  pub first_of_two : Known 512 1020 2 8
  pub words_of_zero : pointers_of 0 ≡ 0
  pub words_of_one : pointers_of 1 ≡ 1
  pub words_of_two : pointers_of 2 ≡ 2
  pub words_of_three : pointers_of 3 ≡ 1
  pub words_of_four : pointers_of 4 ≡ 3
  pub words_of_eight : pointers_of 8 ≡ 4

-- a place stands in one block, at one byte
abbrev pub OneLocation : Type 0
OneLocation = (s p n k n' k' : ℕ) → Stands s p n k → Stands s p n' k' → (n ≡ n') × (k ≡ k')

-- The byte k' of block n' follows the byte k of block n: it is the next of the same block, or k is the last of its block
-- and k' the first content byte of the next.
abbrev pub Follows : ℕ → ℕ → ℕ → ℕ → ℕ → Type 0
Follows s n k n' k' = ((n' ≡ n) × (k' ≡ k + 1)) ⊎ ((k + 1 ≡ s) × (n' ≡ n + 1) × (k' ≡ header_of (n + 1)))

-- the file begins at the first byte of block 0, and each further place follows the one before it, at every size
pub record PlacesFollow : Type 0 where
  pub first : (size : BlockSize) → (block_of (bytes_of size) 0 ≡ 0) × (byte_of (bytes_of size) 0 ≡ 0)
  pub next : (size : BlockSize) (p : ℕ) → p + 1 < file_limit
      → Follows (bytes_of size) (block_of (bytes_of size) p) (byte_of (bytes_of size) p) (block_of (bytes_of size) (p + 1)) (byte_of (bytes_of size) (p + 1))

-- There is a walk back to every earlier block, and it takes at most two steps for each binary digit of the number of the
-- block that it begins at: first the steps grow with each block, then they shrink with each.
pub record WalksEnd : Type 0 where
  pub ends : (from to : ℕ) → to ≤ from → from < 2 ^ 32 → (n : ℕ) × Walk to from n
  pub few : (digits from to n : ℕ) → digits ≤ 32 → from < 2 ^ digits → Walk to from n → n ≤ 2 * digits
