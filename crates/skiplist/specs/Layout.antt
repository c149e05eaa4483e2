-- How a file lies in blocks of s bytes: block 0 is all content, and block i above 0 begins with words of four bytes, one more
-- than i has zero bits at its end, and goes on with content. The content of the blocks, one after the other, is the file.
use Rattle.std.specs.Prelude.{◌≡◌, ℕ, zero, suc, ◌+◌, ◌-◌, ◌*◌, ◌%◌, ◌^◌, ◌<◌, ◌≤◌}
use Rattle.std.specs.Int.Count.{count_trailing_zeros}

-- how many words block i begins with
abbrev pub pointers_of : ℕ → ℕ
pointers_of zero = 0
pointers_of (suc i) = count_trailing_zeros 32 (suc i) + 1

-- Block i begins with r words: block 0 with none, and any other has a word k exactly where 2 ^ k divides i. Word k names
-- block i - 2 ^ k, which is there.
pub record Words (i r : ℕ) : Type 0 where
  pub none : i ≡ 0 → r ≡ 0
  pub divides : (k : ℕ) → k < r → i % 2 ^ k ≡ 0
  pub all : 0 < i → (k : ℕ) → i % 2 ^ k ≡ 0 → k < r
  pub named : (k : ℕ) → k < r → 2 ^ k ≤ i

-- how many bytes of block i are words
abbrev pub header_of : ℕ → ℕ
header_of i = 4 * pointers_of i

-- the place of the first content byte of block n
unfoldable pub start_of : ℕ → ℕ → ℕ
start_of s zero = 0
start_of s (suc n) = start_of s n + (s - header_of n)

-- the place p stands in block n, at the byte k of the block
pub record Stands (s p n k : ℕ) : Type 0 where
  pub after : start_of s n ≤ p
  pub before : p < start_of s (suc n)
  pub at : k ≡ header_of n + (p - start_of s n)
