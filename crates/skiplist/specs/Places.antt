-- Where a place of a file stands, where a block begins and how many blocks there are, by closed formulas and by the layout.
-- For each question there is a relation between what was asked and the answer, with the reason of an answer that is none.
use Rattle.std.specs.Prelude.{◌≡◌, ℕ, zero, suc, ◌+◌, ◌-◌, ◌*◌, ◌/◌, ◌<◌, ◌≤◌, cond, ◌⊎◌, Some, None, Option, ◌==◌, count_ones}
use Rattle.skiplist.specs.Layout.{start_of, Stands}
use Rattle.skiplist.specs.declared.layout.Location.{Location}

-- how many bytes a file has at most
abbrev pub file_limit : ℕ
file_limit = 1048576

-- how many blocks a file has at most, rounded up to a power of two
abbrev pub block_limit : ℕ
block_limit = 4096

-- how many bytes of content a block has on average: half of the blocks have one word, a quarter two, an eighth three
abbrev pub content_of : ℕ → ℕ
content_of s = s - 8

-- The block of the place p. The quotient j by the average content is the block or one too high; to take eight bytes, and
-- four for each one bit of j - 1, from the place before dividing sets that right.
abbrev pub block_of : ℕ → ℕ → ℕ
block_of s p = cond (p / content_of s == 0) 0 ((p - 4 * (count_ones (p / content_of s - 1) + 2)) / content_of s)

-- the byte of a place that stands in block n
abbrev pub byte_in : ℕ → ℕ → ℕ → ℕ
byte_in s n p = p - content_of s * n - 4 * count_ones n

-- the byte of the place p in its block
abbrev pub byte_of : ℕ → ℕ → ℕ
byte_of s p = byte_in s (block_of s p) p

-- the location l is that of the place p, by the formula and by the layout
pub record Located (s p : ℕ) (l : Location) : Type 0 where
  pub within : p < file_limit
  pub block : l.block ≡ block_of s p
  pub byte : l.byte ≡ byte_of s p
  pub stands : Stands s p l.block l.byte
  pub few : l.block < block_limit
  pub inside : l.byte < s

-- the answer to a question for a place: its location, or none since no file has such a place
abbrev pub Locates : ℕ → ℕ → Option Location → Type 0
Locates s p (Some l) = Located s p l
Locates s p None = file_limit ≤ p

-- the place of the first content byte of block n, by the closed formula
abbrev pub first_of : ℕ → ℕ → ℕ
first_of s zero = 0
first_of s (suc n) = content_of s * suc n + 8 + 4 * count_ones n

-- the content of block n begins at the place p, by the layout and by the formula
pub record Begins (s n p : ℕ) : Type 0 where
  pub within : n < block_limit
  pub layout : p ≡ start_of s n
  pub formula : p ≡ first_of s n

-- the answer to a question for the first place of a block: the place, or none since no file has such a block
abbrev pub FirstPlace : ℕ → ℕ → Option ℕ → Type 0
FirstPlace s n (Some p) = Begins s n p
FirstPlace s n None = block_limit ≤ n

-- n is the least number of blocks that hold so many bytes; its last block, if there is one, holds some of them
pub record Needed (s bytes n : ℕ) : Type 0 where
  pub within : bytes ≤ file_limit
  pub enough : bytes ≤ start_of s n
  pub least : (m : ℕ) → bytes ≤ start_of s m → n ≤ m
  pub last : (n ≡ 0) ⊎ (start_of s (n - 1) < bytes)

-- the answer to a question for the blocks of a file: their number, or none since no file has so many bytes
abbrev pub BlocksFor : ℕ → ℕ → Option ℕ → Type 0
BlocksFor s bytes (Some n) = Needed s bytes n
BlocksFor s bytes None = file_limit < bytes
