-- Which blocks a set of blocks holds: bit b % 8 of byte b / 8 says it for block b. How many it holds, and what an
-- insertion changes.
use Rattle.std.specs.Prelude.{◌≡◌, ℕ, zero, suc, ◌+◌, ◌/◌, ◌%◌, ◌^◌, Bool, cond, ◌&&◌, ◌||◌, ◌==◌, nat_lt, slice_index}
use Rattle.blockset.specs.declared.BlockSet.{BlockSet}

-- how many blocks a set has room for
abbrev pub capacity : ℕ
capacity = 4096

-- whether the set holds block b; from the capacity on there is no byte, and so no block
unfoldable pub holds : BlockSet → ℕ → Bool
holds s b = slice_index s.bits (b / 8) / 2 ^ (b % 8) % 2 == 1

-- how many numbers below n pass a test
unfoldable pub counted : ℕ → (ℕ → Bool) → ℕ
counted zero f = 0
counted (suc n) f = counted n f + cond (f n) 1 0

-- the second set holds what the first does, and the block, where a set has room for it
pub record Inserted (s : BlockSet) (block : ℕ) (t : BlockSet) : Type 0 where
  pub holding : (b : ℕ) → holds t b ≡ ((nat_lt block capacity && b == block) || holds s b)
