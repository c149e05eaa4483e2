-- Where a block begins and how many blocks a file has: what the code computes is what the layout says.
-- A file ends in the block in which its last byte stands.
use Rattle.std.proofs.Common.{◌≡◌, ℕ, zero, suc, ◌+◌, ◌-◌, ◌*◌, ◌<◌, ◌≤◌, ◌⊎◌, refl, ap, inl, inr, arith}
use lib.Count.{ones}
use Rattle.std.proofs.lemmas.Bool.{cases_lt}
use Rattle.skiplist.specs.Layout.{start_of, Stands}
use Rattle.skiplist.specs.Places.{file_limit, block_limit, content_of, first_of, Begins, Needed}
use Rattle.skiplist.proofs.Starts.{start_zero, start_le, start_formula}

-- block 0 begins at place 0
pub begins_zero : (s n : ℕ) → n ≡ 0 → Begins s n 0
begins_zero s zero e = record { within = omega arith; layout = omega (arith, start_zero s); formula = refl }
begins_zero s (suc n) e = elim (absurd_suc e) [ ]
  where
    absurd_suc : suc n ≡ 0 → ⊥
    absurd_suc h = omega arith

-- any other block begins where the formula says
pub begins_later : (s b n : ℕ) → 512 ≤ s → b ≡ content_of s → (n ≡ 0 → ⊥) → n < block_limit → Begins s n (b * n + 8 + 4 * ones (n - 1))
begins_later s b zero lo e some hi = absurd (some refl)
begins_later s b (suc m) lo e some hi =
    let back : suc m - 1 ≡ m = omega arith in
    let same : b * suc m + 8 + 4 * ones (suc m - 1) ≡ first_of s (suc m) = cc in
    record { within = hi; layout = omega (arith, same, start_formula s m lo (omega arith)); formula = same }

-- no byte needs no block
pub needed_none : (s bytes : ℕ) → bytes ≡ 0 → Needed s bytes 0
needed_none s bytes e = record { within = omega arith; enough = omega arith; least = λ m h. omega arith; last = inl refl }

-- the last byte of a file stands in its last block
pub needed_up_to : (s bytes n k : ℕ) → (bytes ≡ 0 → ⊥) → bytes ≤ file_limit → Stands s (bytes - 1) n k → Needed s bytes (n + 1)
needed_up_to s bytes n k some hi at =
    let next : n + 1 ≡ suc n = omega arith in
    let end = ap (start_of s) next in
    let back : n + 1 - 1 ≡ n = omega arith in
    let begin = ap (start_of s) back in
    record {
      within = hi;
      enough = omega (arith, at.before, end);
      least = λ m h. fewer m h (cases_lt m (n + 1));
      last = inr (omega (arith, at.after, begin));
    }
  where
    fewer : (m : ℕ) → bytes ≤ start_of s m → (m < n + 1) ⊎ (n + 1 ≤ m) → n + 1 ≤ m
    fewer m h (inl l) = omega (arith, start_le s m n (omega arith), at.after)
    fewer m h (inr l) = l
