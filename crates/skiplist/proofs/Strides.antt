-- The word that a walk follows: the smaller of two bounds, the last word there is and the last that does not pass the goal.
-- The second is the place of the highest binary digit of the distance.
use Rattle.std.proofs.Common.{◌≡◌, ℕ, suc, ◌-◌, ◌^◌, ◌<◌, ◌≤◌, min, ⊎_elim, arith, pow_pos, pow_mono}
use lib.Count.{count_trailing_zeros, count_leading_zeros, leading_top}
use Rattle.std.proofs.lemmas.Bool.{cases_lt}
use Rattle.skiplist.specs.Strides.{Stride}
use Rattle.skiplist.proofs.Words.{pointers_later}

-- a power of two that is at most d is at most the one of d's highest digit
pub power_le_top : (d j m : ℕ) → d < 2 ^ suc j → 2 ^ m ≤ d → m ≤ j
power_le_top d j m top le =
    ⊎_elim (λ l. omega (arith, pow_mono l)) (λ l. l) (cases_lt j m)

-- the smaller of the two bounds is the word to follow
pub stride_by_min : (from to k : ℕ) → to < from → from < 2 ^ 32
    → k ≡ min (31 - count_leading_zeros 32 (from - to)) (count_trailing_zeros 32 from) → Stride from to k
stride_by_min from to k less fits e =
    let top = leading_top 32 (from - to) (omega arith) (omega arith) in
    let j : ℕ = top.0 in
    let is_top : 31 - count_leading_zeros 32 (from - to) ≡ j = omega (arith, top.1) in
    let words = pointers_later from (omega arith) in
    let pos = pow_pos k in
    let low : k ≤ j = omega arith in
    let le : 2 ^ k ≤ from - to = omega (arith, pow_mono low, top.2) in
    record {
      word = omega arith;
      within = le;
      farthest = λ m offered reached. omega (arith, power_le_top (from - to) j m top.3 reached);
      before = omega arith;
      reaches = omega arith;
    }
