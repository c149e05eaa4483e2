-- The words at the beginning of a block: block i has a word k exactly where 2 ^ k divides i.
-- The code counts the zeros at the end of i; each is one division by two.
use Rattle.std.proofs.Common.{◌≡◌, ℕ, zero, suc, ◌+◌, ◌*◌, ◌/◌, ◌%◌, ◌^◌, ◌<◌, ◌≤◌, sym, refl, ap, ◌∙◌, ⊎_elim, mod-eq_of_lt, eq-zero-or-pos, pow-suc, arith}
use lib.Count.{count_trailing_zeros, under}
use lib.Pow.{mod-pow-add}
use Rattle.std.proofs.lemmas.Bool.{cases_lt}
use Rattle.skiplist.specs.Layout.{pointers_of, Words}

-- the last digit of a number, and the rest of it, below a power of two
mod_power_suc : (n k : ℕ) → n % 2 ^ suc k ≡ (n / 2 % 2 ^ k) * 2 + n % 2
mod_power_suc n k = let e : k + 1 ≡ suc k = omega arith in ap (λ (x : ℕ). n % 2 ^ x) (sym e) ∙ mod-pow-add n k 1

-- one zero more at the end than the half of an even number has, and none for an odd one
trailing_even : (w n : ℕ) → n % 2 ≡ 0 → count_trailing_zeros (suc w) n ≡ suc (count_trailing_zeros w (n / 2))
unfolding count_trailing_zeros
trailing_even w n e = ap (λ (d : ℕ). under d (count_trailing_zeros w (n / 2))) e

trailing_odd : (w n : ℕ) → n % 2 ≡ 1 → count_trailing_zeros (suc w) n ≡ 0
unfolding count_trailing_zeros
trailing_odd w n e = ap (λ (d : ℕ). under d (count_trailing_zeros w (n / 2))) e

trailing_none : (n : ℕ) → count_trailing_zeros 0 n ≡ 0
unfolding count_trailing_zeros
trailing_none n = refl

-- a number is divided by two as often as it has zeros at its end
pub trailing_divides : (w n k : ℕ) → k ≤ count_trailing_zeros w n → n % 2 ^ k ≡ 0
trailing_divides w n zero h = omega arith
trailing_divides zero n (suc k) h = omega (arith, trailing_none n)
trailing_divides (suc w) n (suc k) h = ⊎_elim (even (λ l. trailing_divides w (n / 2) k l)) odd (eq-zero-or-pos (n % 2))
  where
    even : (k ≤ count_trailing_zeros w (n / 2) → n / 2 % 2 ^ k ≡ 0) → n % 2 ≡ 0 → n % 2 ^ suc k ≡ 0
    even half e = omega (arith, trailing_even w n e, half (omega (arith, trailing_even w n e)), mod_power_suc n k)

    odd : 0 < n % 2 → n % 2 ^ suc k ≡ 0
    odd l = omega (arith, trailing_odd w n (omega arith))

-- and no more often
pub divides_trailing : (w n k : ℕ) → 0 < n → n < 2 ^ w → n % 2 ^ k ≡ 0 → k ≤ count_trailing_zeros w n
divides_trailing w n zero pos hi h = omega arith
divides_trailing zero n (suc k) pos hi h = omega arith
divides_trailing (suc w) n (suc k) pos hi h =
    let step = mod_power_suc n k in
    let even : n % 2 ≡ 0 = omega arith in
    let half : n / 2 % 2 ^ k ≡ 0 = omega arith in
    let rest = divides_trailing w (n / 2) k (omega arith) (omega (arith, pow-suc 2 w)) half in
    omega (arith, trailing_even w n even)

-- what divides a number above 0 is not above it
divisor_le : (n m : ℕ) → 0 < n → n % m ≡ 0 → m ≤ n
divisor_le n m pos h = ⊎_elim (λ l. omega (arith, mod-eq_of_lt l)) (λ l. l) (cases_lt n m)

-- a block above 0 has one word more than its number has zeros at its end
pub pointers_later : (i : ℕ) → 0 < i → pointers_of i ≡ count_trailing_zeros 32 i + 1
pointers_later zero h = omega arith
pointers_later (suc i) h = refl

-- block 0 has no words
pub words_none : (i : ℕ) → i ≡ 0 → Words i 0
words_none i e = record {
  none = λ _. refl;
  divides = λ k h. omega arith;
  all = λ pos k h. omega arith;
  named = λ k h. omega arith;
}

-- any other has a word for each power of two that divides its number
pub words_later : (i : ℕ) → (i ≡ 0 → ⊥) → i < 2 ^ 32 → Words i (count_trailing_zeros 32 i + 1)
words_later i some fits = record {
  none = λ e. absurd (some e);
  divides = λ k h. trailing_divides 32 i k (omega arith);
  all = λ pos k h. omega (arith, divides_trailing 32 i k pos fits h);
  named = λ k h. divisor_le i (2 ^ k) (omega arith) (trailing_divides 32 i k (omega arith));
}
