-- Which of two revisions is the newer one: they count up and wrap at 2^32.
use Rattle.std.specs.Prelude.{◌≡◌, ℕ, ◌+◌, ◌-◌, ◌%◌, ◌^◌, ◌<◌, Bool, true, false, ◌&&◌, ◌⊎◌, nat_le, nat_lt}

-- how far a is ahead of b
abbrev pub ahead : ℕ → ℕ → ℕ
ahead a b = (a + 2 ^ 32 - b) % 2 ^ 32

-- a is newer than b if it is ahead by 1 to 2^31 - 1
abbrev pub newer : ℕ → ℕ → Bool
newer a b = nat_le 1 (ahead a b) && nat_lt (ahead a b) (2 ^ 31)

abbrev pub following : ℕ → ℕ
following a = (a + 1) % 2 ^ 32

pub record RevisionLaws : Type 0 where
  -- the one that follows is newer, also round the end
  pub follows : (a : ℕ) → a < 2 ^ 32 → newer (following a) a ≡ true
  -- none is newer than itself
  pub irreflexive : (a : ℕ) → a < 2 ^ 32 → newer a a ≡ false
  -- of two at most one is newer
  pub asymmetric : (a b : ℕ) → a < 2 ^ 32 → b < 2 ^ 32 → newer a b ≡ true → newer b a ≡ false
  -- of two different ones exactly one is newer, unless they are half the way round apart
  pub total : (a b : ℕ) → a < 2 ^ 32 → b < 2 ^ 32 → ahead a b ≡ 0 ⊎ (ahead a b ≡ 2 ^ 31 ⊎ (newer a b ≡ true ⊎ newer b a ≡ true))
