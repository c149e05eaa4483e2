-- The closed formula for a place agrees with the layout. The layout says in which block the place stands; the first guess
-- of the formula is that block or the next, and either way the formula comes to that block.
use Rattle.std.proofs.Common.{◌≡◌, ℕ, zero, suc, ◌+◌, ◌-◌, ◌*◌, ◌/◌, ◌<◌, ◌≤◌, eqb, sym, ap, ◌∙◌, subst, ⊎_elim, mul_comm, mul-le-mul_left, mul-zero, mul-suc, div-mul-le_self, arith}
use lib.Arith.{digits_div}
use lib.Count.{ones, ones-le}
use Rattle.std.proofs.lemmas.Bool.{cases_lt, cond-true, cond-false, eq-eqb, ne_eqb}
use Rattle.skiplist.specs.Layout.{Stands}
use Rattle.skiplist.specs.Places.{file_limit, content_of, block_of, byte_in, byte_of, Located}
use Rattle.skiplist.proofs.Digits.{ones_zero, ones_suc}
use Rattle.skiplist.proofs.Starts.{start_zero, start_suc, start_formula, stands_somewhere, stands_few, stands_inside}

-- a number from b * n up to b * (n + 1) has the quotient n
quotient_is : (b q n : ℕ) → b * n ≤ q → q < b * n + b → q / b ≡ n
quotient_is b q n lo hi =
    let turned = mul_comm b n in
    let split : n * b + (q - n * b) ≡ q = omega arith in
    ap (λ (x : ℕ). x / b) (sym split) ∙ digits_div n {r = q - n * b} (omega arith)

-- the formula where the first guess is 0
block_from_zero : (s p : ℕ) → p / content_of s ≡ 0 → block_of s p ≡ 0
block_from_zero s p e = cond-true (eqb (p / content_of s) 0) 0 _ (eq-eqb (p / content_of s) 0 e)

-- the formula where the first guess is above 0
block_from_guess : (s p j : ℕ) → p / content_of s ≡ suc j → block_of s p ≡ (p - 4 * (ones j + 2)) / content_of s
block_from_guess s p j e =
    let back : p / content_of s - 1 ≡ j = omega arith in
    cond-false (eqb (p / content_of s) 0) 0 _ (ne_eqb (p / content_of s) 0 (λ z. omega arith))
    ∙ ap (λ (x : ℕ). (p - 4 * (ones x + 2)) / content_of s) back

-- the formula comes to the block in which the place stands
block_formula : (s p n k : ℕ) → 512 ≤ s → p < file_limit → Stands s p n k → block_of s p ≡ n
block_formula s p zero k lo hi at =
    let end : p < s = omega (arith, at.before, start_suc s 0, start_zero s) in
    let none = mul-zero (content_of s) in
    let one : content_of s * 1 ≡ content_of s = omega (arith, mul-suc (content_of s) 0) in
    ⊎_elim
    (λ l. block_from_zero s p (quotient_is (content_of s) p 0 (omega arith) (omega arith)))
    (λ l.
    block_from_guess s p 0 (quotient_is (content_of s) p 1 (omega arith) (omega arith))
    ∙ quotient_is (content_of s) (p - 4 * (ones 0 + 2)) 0 (omega arith) (omega (arith, ones_zero)))
    (cases_lt p (content_of s))
block_formula s p (suc m) k lo hi at =
    let b : ℕ = content_of s in
    let few = stands_few s p (suc m) k lo hi at in
    let first = start_formula s m lo (omega arith) in
    let next = start_formula s (suc m) lo (omega arith) in
    let more = mul-suc b (suc m) in
    let most : ones m ≤ 12 = ones-le 12 m (omega arith) in
    let most_next : ones (suc m) ≤ 12 = ones-le 12 (suc m) (omega arith) in
    let after = at.after in
    let before = at.before in
    ⊎_elim
    (λ l.
    block_from_guess s p m (quotient_is b p (suc m) (omega arith) (omega arith))
    ∙ quotient_is b (p - 4 * (ones m + 2)) (suc m) (omega arith) (omega arith))
    (λ l.
    block_from_guess s p (suc m) (quotient_is b p (suc (suc m)) (omega arith) (omega arith))
    ∙ quotient_is b (p - 4 * (ones (suc m) + 2)) (suc m) (omega arith) (omega arith))
    (cases_lt p (b * suc (suc m)))

-- and the byte of the formula is that at which it stands
byte_formula : (s p n k : ℕ) → 512 ≤ s → p < file_limit → Stands s p n k → k ≡ byte_in s n p
byte_formula s p zero k lo hi at = omega (arith, at.at, start_zero s, ones_zero, mul-zero (content_of s))
byte_formula s p (suc m) k lo hi at =
    let few = stands_few s p (suc m) k lo hi at in
    omega (arith, at.at, at.after, start_formula s m lo (omega arith), ones_suc m (omega arith))

-- what the formula takes from a place for the blocks before it is no more than the place
stands_before_le : (s p n k : ℕ) → 512 ≤ s → p < file_limit → Stands s p n k → content_of s * n + 4 * ones n ≤ p
stands_before_le s p zero k lo hi at = omega (arith, ones_zero, mul-zero (content_of s))
stands_before_le s p (suc m) k lo hi at =
    let few = stands_few s p (suc m) k lo hi at in
    omega (arith, at.after, start_formula s m lo (omega arith), ones_suc m (omega arith))

-- a place stands where the formula says
pub formula_stands : (s p n : ℕ) → 512 ≤ s → p < file_limit → n ≡ block_of s p → Stands s p n (byte_in s n p)
formula_stands s p n lo hi e = found (stands_somewhere s p lo)
  where
    found : (m : ℕ) × (k : ℕ) × Stands s p m k → Stands s p n (byte_in s n p)
    found (m, k, at) =
        let same : m ≡ n = sym (e ∙ block_formula s p m k lo hi at) in
        subst (λ (x : ℕ). Stands s p x (byte_in s x p)) same (subst (λ (x : ℕ). Stands s p m x) (byte_formula s p m k lo hi at) at)

-- so nothing is taken from a place that is not there, with the average content under a name of its own
pub formula_before_le : (s p b n : ℕ) → 512 ≤ s → p < file_limit → b ≡ content_of s → n ≡ block_of s p → b * n + 4 * ones n ≤ p
formula_before_le s p b n lo hi is_content is_Block =
    let le = stands_before_le s p n (byte_in s n p) lo hi (formula_stands s p n lo hi is_Block) in
    let same : b * n ≡ content_of s * n = ap (λ (x : ℕ). x * n) is_content in
    omega arith

-- a location by the formula is one by the layout
pub formula_located : (s p n k : ℕ) → 512 ≤ s → p < file_limit → n ≡ block_of s p → k ≡ byte_of s p → Located s p (record { block = n; byte = k })
formula_located s p n k lo hi is_Block is_byte_lem =
    let is : byte_in s n p ≡ k = cc in
    let stand = subst (λ (x : ℕ). Stands s p n x) is (formula_stands s p n lo hi is_Block) in
    record {
      within = hi;
      block = is_Block;
      byte = is_byte_lem;
      stands = stand;
      few = stands_few s p n k lo hi stand;
      inside = stands_inside s p n k lo stand;
    }

-- the ones of the first guess are few
pub guess_ones_le : (b p : ℕ) → 504 ≤ b → p < file_limit → (p / b ≡ 0 → ⊥) → ones (p / b - 1) ≤ 12
guess_ones_le b p lo hi some = ones-le 12 (p / b - 1) (omega (arith, div-mul-le_self p b, mul-le-mul_left (p / b) lo))

-- the words by the first guess are no more than the place
pub guess_words_le : (b p : ℕ) → 504 ≤ b → p < file_limit → (p / b ≡ 0 → ⊥) → 4 * (ones (p / b - 1) + 2) ≤ p
guess_words_le b p lo hi some = omega (arith, guess_ones_le b p lo hi some, div-mul-le_self p b, mul-le-mul_left (p / b) lo)
