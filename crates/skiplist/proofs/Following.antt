-- Places follow one another: the next place stands at the next byte of the block, or at the first content byte of the next.
-- It holds of the layout, and of the formula since that agrees with the layout.
use Rattle.std.proofs.Common.{◌≡◌, ℕ, suc, ◌+◌, ◌<◌, ◌≤◌, refl, ap, ◌∙◌, inl, inr, ⊎_elim, arith}
use Rattle.std.proofs.lemmas.Bool.{cases_lt}
use Rattle.skiplist.specs.Sizes.{bytes_of}
use Rattle.skiplist.specs.Layout.{header_of, start_of, Stands}
use Rattle.skiplist.specs.Places.{file_limit, block_of, byte_of}
use Rattle.skiplist.specs.Laws.{Follows, PlacesFollow}
use Rattle.skiplist.proofs.Sizes.{bytes_least}
use Rattle.skiplist.proofs.Starts.{start_suc, header_le, stands_once, stands_at_zero, stands_same_block, stands_next_block}
use Rattle.skiplist.proofs.Places.{formula_stands}

-- where the block ends, the byte is its last
last_byte : (s p n k : ℕ) → 512 ≤ s → Stands s p n k → start_of s (suc n) ≤ p + 1 → k + 1 ≡ s
last_byte s p n k lo at end = omega (arith, at.after, at.before, at.at, start_suc s n, header_le n)

-- what stands next follows
stands_follows : (s p n k n' k' : ℕ) → 512 ≤ s → Stands s p n k → Stands s (p + 1) n' k' → Follows s n k n' k'
stands_follows s p n k n' k' lo here there =
    ⊎_elim
    (λ less. inl (stands_once s (p + 1) n' k' n (k + 1) there (stands_same_block s p n k here less)))
    (λ end.
    let next : suc n ≡ n + 1 = omega arith in
    let both = stands_once s (p + 1) n' k' (suc n) (header_of (suc n)) there (stands_next_block s p n k lo here end) in
    inr (last_byte s p n k lo here end, both.0 ∙ next, both.1 ∙ ap header_of next))
    (cases_lt (p + 1) (start_of s (suc n)))

-- by the formula, the file begins at the first byte of block 0
formula_first : (s : ℕ) → 512 ≤ s → (block_of s 0 ≡ 0) × (byte_of s 0 ≡ 0)
formula_first s lo =
    stands_once s 0 (block_of s 0) (byte_of s 0) 0 0 (formula_stands s 0 (block_of s 0) lo (omega arith) refl) (stands_at_zero s lo)

-- by the formula, the next place follows
formula_next : (s p : ℕ) → 512 ≤ s → p + 1 < file_limit → Follows s (block_of s p) (byte_of s p) (block_of s (p + 1)) (byte_of s (p + 1))
formula_next s p lo hi =
    stands_follows s p (block_of s p) (byte_of s p) (block_of s (p + 1)) (byte_of s (p + 1)) lo
    (formula_stands s p (block_of s p) lo (omega arith) refl)
    (formula_stands s (p + 1) (block_of s (p + 1)) lo hi refl)

pub formula_follows : PlacesFollow
formula_follows = record {
  first = λ size. formula_first (bytes_of size) (bytes_least size);
  next = λ size p h. formula_next (bytes_of size) p (bytes_least size) h;
}
