-- One step of the walk from a block back to an earlier one, and the walk that such steps make.
-- Word k of block i names block i - 2 ^ k; a step follows the word that leads farthest without passing the goal.
use Rattle.std.specs.Prelude.{◌≡◌, ℕ, zero, suc, ◌-◌, ◌^◌, ◌<◌, ◌≤◌, Some, None, Option}
use Rattle.skiplist.specs.Layout.{pointers_of}

-- Word k is the one of block `from` that leads farthest towards block `to` without passing it: the block that it names is
-- before `from` and not before `to`.
pub record Stride (from to k : ℕ) : Type 0 where
  pub word : k < pointers_of from
  pub within : 2 ^ k ≤ from - to
  pub farthest : (m : ℕ) → m < pointers_of from → 2 ^ m ≤ from - to → m ≤ k
  pub before : from - 2 ^ k < from
  pub reaches : to ≤ from - 2 ^ k

-- a walk of n steps from block `from` back to block `to`
abbrev pub Walk : ℕ → ℕ → ℕ → Type 0
Walk to from zero = from ≡ to
Walk to from (suc n) = (k : ℕ) × Stride from to k × Walk to (from - 2 ^ k) n

-- the answer to a question for a step: its word, or none since there is no way back from `from` to `to`
abbrev pub Strides : ℕ → ℕ → Option ℕ → Type 0
Strides from to (Some k) = Stride from to k
Strides from to None = from ≤ to
