-- The places at which the blocks begin: the closed formula, and that they ascend.
-- So every place stands in one block, at one byte of it, and the next place at the next.
use Rattle.std.proofs.Common.{◌≡◌, ℕ, zero, suc, ◌+◌, ◌-◌, ◌*◌, ◌^◌, ◌<◌, ◌≤◌, sym, refl, ap, ◌∙◌, subst, ⊎_elim, le_refl, mul-suc, arith}
use native.Mathlib.Decide.{le_ind}
use lib.Count.{ones, trailing_le}
use Rattle.std.proofs.lemmas.Bool.{cases_lt, cases_order}
use Rattle.skiplist.specs.Layout.{header_of, start_of, Stands}
use Rattle.skiplist.specs.Places.{file_limit, block_limit}
use Rattle.skiplist.proofs.Digits.{ones_zero, ones_suc}

pub start_zero : (s : ℕ) → start_of s 0 ≡ 0
unfolding start_of
start_zero s = refl

-- a block's content ends where that of the next begins
pub start_suc : (s n : ℕ) → start_of s (suc n) ≡ start_of s n + (s - header_of n)
unfolding start_of
start_suc s n = refl

-- a block begins with at most 33 words
pub header_le : (n : ℕ) → header_of n ≤ 132
header_le zero = omega arith
header_le (suc n) = omega (arith, trailing_le 32 (suc n))

-- where block n + 1 begins, by the closed formula
pub start_formula : (s n : ℕ) → 512 ≤ s → suc n < 2 ^ 32 → start_of s (suc n) ≡ (s - 8) * suc n + 8 + 4 * ones n
start_formula s zero lo hi = omega (arith, start_suc s 0, start_zero s, ones_zero)
start_formula s (suc m) lo hi =
    omega (
      arith,
      start_suc s (suc m),
      start_formula s m lo (omega arith),
      ones_suc m (omega arith),
      trailing_le 32 (suc m),
      mul-suc (s - 8) (suc m),
    )

-- the blocks begin in their order
pub start_le : (s m n : ℕ) → m ≤ n → start_of s m ≤ start_of s n
start_le s m n h = le_ind (λ (k : ℕ). start_of s m ≤ start_of s k) (le_refl (start_of s m)) (λ k _ le. omega (arith, start_suc s k)) n h

-- a block that begins behind a place does not hold it
stands_not_above : (s p n k n' k' : ℕ) → Stands s p n k → Stands s p n' k' → n < n' → ⊥
stands_not_above s p n k n' k' here there l = omega (arith, start_le s (suc n) n' l, here.before, there.after)

-- a block that holds a place is the only one, and the place has one byte in it
pub stands_once : (s p n k n' k' : ℕ) → Stands s p n k → Stands s p n' k' → (n ≡ n') × (k ≡ k')
stands_once s p n k n' k' here there =
    ⊎_elim
    (λ e. (e, here.at ∙ ap (λ (x : ℕ). header_of x + (p - start_of s x)) e ∙ sym there.at))
    (⊎_elim (λ l. absurd (stands_not_above s p n k n' k' here there l)) (λ l. absurd (stands_not_above s p n' k' n k there here l)))
    (cases_order n n')

-- a byte at which a place stands is a byte of the block
pub stands_inside : (s p n k : ℕ) → 512 ≤ s → Stands s p n k → k < s
stands_inside s p n k lo at = omega (arith, header_le n, start_suc s n, at.after, at.before, at.at)

-- the first place is the first byte of block 0
pub stands_at_zero : (s : ℕ) → 512 ≤ s → Stands s 0 0 0
stands_at_zero s lo = record { after = omega (arith, start_zero s); before = omega (arith, start_suc s 0); at = omega (arith, start_zero s) }

-- the next place, while the block lasts
pub stands_same_block : (s p n k : ℕ) → Stands s p n k → p + 1 < start_of s (suc n) → Stands s (p + 1) n (k + 1)
stands_same_block s p n k at less = record { after = omega (arith, at.after); before = less; at = omega (arith, at.at, at.after) }

-- the next place, where the block ends
pub stands_next_block : (s p n k : ℕ) → 512 ≤ s → Stands s p n k → start_of s (suc n) ≤ p + 1 → Stands s (p + 1) (suc n) (header_of (suc n))
stands_next_block s p n k lo at end =
    record {
      after = end;
      before = omega (arith, at.before, start_suc s (suc n), header_le (suc n));
      at = omega (arith, at.before, end);
    }

-- every place stands somewhere
pub stands_somewhere : (s p : ℕ) → 512 ≤ s → (n : ℕ) × (k : ℕ) × Stands s p n k
stands_somewhere s zero lo = (0, 0, stands_at_zero s lo)
stands_somewhere s (suc p) lo = next (stands_somewhere s p lo)
  where
    next : (n : ℕ) × (k : ℕ) × Stands s p n k → (n : ℕ) × (k : ℕ) × Stands s (suc p) n k
    next (n, k, at) =
        let e : p + 1 ≡ suc p = omega arith in
        ⊎_elim
        (λ less. (n, k + 1, subst (λ (x : ℕ). Stands s x n (k + 1)) e (stands_same_block s p n k at less)))
        (λ end. (suc n, header_of (suc n), subst (λ (x : ℕ). Stands s x (suc n) (header_of (suc n))) e (stands_next_block s p n k lo at end)))
        (cases_lt (p + 1) (start_of s (suc n)))

-- each block has more than 380 bytes of content
start_ge : (s n : ℕ) → 512 ≤ s → 380 * n ≤ start_of s n
start_ge s zero lo = omega arith
start_ge s (suc n) lo = omega (arith, start_ge s n lo, start_suc s n, header_le n)

-- a place of a file stands in one of the first blocks
pub stands_few : (s p n k : ℕ) → 512 ≤ s → p < file_limit → Stands s p n k → n < block_limit
stands_few s p n k lo hi at = omega (arith, start_ge s n lo, at.after)
