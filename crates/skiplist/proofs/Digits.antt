-- The binary digits of a number and of the next: how their ones and the zeros at the end are tied.
-- This is what makes the closed formulas for places right: words are counted by zeros, and the formulas count ones.
use Rattle.std.proofs.Common.{◌≡◌, ℕ, zero, suc, ◌+◌, ◌/◌, ◌%◌, ◌^◌, ◌<◌, refl, ap, ⊎_elim, eq-zero-or-pos, pow-suc, arith}
use lib.Count.{ones, ones_step, count_trailing_zeros, under}

pub ones_zero : ones 0 ≡ 0
unfolding ones
ones_zero = refl

-- The next number has one more digit set, and has lost as many as it has zeros at its end.
pub ones_next : (k n : ℕ) → n + 1 < 2 ^ k → ones (n + 1) + count_trailing_zeros k (n + 1) ≡ ones n + 1
unfolding count_trailing_zeros
ones_next zero n h = omega arith
ones_next (suc k) n h = ⊎_elim even (odd (λ l. ones_next k (n / 2) l)) (eq-zero-or-pos (n % 2))
  where
    even : n % 2 ≡ 0 → ones (n + 1) + count_trailing_zeros (suc k) (n + 1) ≡ ones n + 1
    even e =
        let half : (n + 1) / 2 ≡ n / 2 = omega arith in
        let last : (n + 1) % 2 ≡ 1 = omega arith in
        let none : count_trailing_zeros (suc k) (n + 1) ≡ 0 = ap (λ (d : ℕ). under d (count_trailing_zeros k ((n + 1) / 2))) last in
        omega (arith, ones_step (n + 1), ones_step n, ap ones half, none)

    odd : (n / 2 + 1 < 2 ^ k → ones (n / 2 + 1) + count_trailing_zeros k (n / 2 + 1) ≡ ones (n / 2) + 1)
        → 0 < n % 2 → ones (n + 1) + count_trailing_zeros (suc k) (n + 1) ≡ ones n + 1
    odd rest e =
        let half : (n + 1) / 2 ≡ n / 2 + 1 = omega arith in
        let last : (n + 1) % 2 ≡ 0 = omega arith in
        let more : count_trailing_zeros (suc k) (n + 1) ≡ suc (count_trailing_zeros k ((n + 1) / 2)) = ap (λ (d : ℕ). under d (count_trailing_zeros k ((n + 1) / 2))) last in
        let same = ap (count_trailing_zeros k) half in
        let less : n / 2 + 1 < 2 ^ k = omega (arith, pow-suc 2 k) in
        omega (arith, ones_step (n + 1), ones_step n, ap ones half, more, same, rest less)

-- the same, of the successor
pub ones_suc : (n : ℕ) → suc n < 2 ^ 32 → ones (suc n) + count_trailing_zeros 32 (suc n) ≡ ones n + 1
ones_suc n h =
    let e : n + 1 ≡ suc n = omega arith in omega (arith, ones_next 32 n (omega arith), ap ones e, ap (count_trailing_zeros 32) e)
