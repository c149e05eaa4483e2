-- The rows of a list as they are taken with their numbers, from a number on.
use Rattle.std.proofs.Common.{◌≡◌, ℕ, zero, suc, ◌+◌, ◌≤◌, List, [], ◌∷◌, map, length, drop, Some, None, Bor, Iter, sym, ap, ◌∙◌, subst, arith}
use Rattle.std.proofs.lemmas.List.{length-drop}
use Rattle.std.proofs.iter.Yields.{fronts}
use Rattle.std.specs.Iterator.{Yields}
use Rattle.std.specs.Iterator.Adapters.{enumerate_source, enumerate_count, enumerate_steps, skip_source, skip_count, skip_steps}
use Rattle.std.specs.List.{slice_get}
use Rattle.std.specs.Slice.Iter.{iter_rest}
use Rattle.std.specs.declared.iter.Enumerate.{Enumerate}
use Rattle.std.specs.declared.iter.Skip.{Skip}
use Rattle.pairlist.specs.Rows.{row_for}
use Rattle.pairlist.specs.declared.rows.Row.{Row}

-- the row with which the end of a list begins
front : (rows : List Row) (k : ℕ) (r : Row) (rest : List Row) → drop k rows ≡ r ∷ rest → (slice_get (map row_for rows) k ≡ Some (row_for r)) × (drop (suc k) rows ≡ rest)
front [] zero r rest e = let bad : ◌≡◌ {A = ℕ} 0 1 = cc in absurd (omega arith)
front [] (suc k) r rest e = let bad : ◌≡◌ {A = ℕ} 0 1 = cc in absurd (omega arith)
front (x ∷ rows) zero r rest e = (cc, cc)
front (x ∷ rows) (suc k) r rest e = front rows k r rest e

module _ (rows : List Row) where
  -- what is left of the rows is what stands from the number on
  abbrev pub Numbered : Enumerate (Iter Row) → Type 0
  Numbered s = iter_rest (enumerate_source s) ≡ drop (enumerate_count s) rows

  -- one row more
  number_more : (s t : Enumerate (Iter Row)) (p : ℕ × Bor Row) → Numbered s → enumerate_steps fronts s (Some p) t → Numbered t × (enumerate_count t ≡ enumerate_count s + 1) × (Some (row_for p.1.now) ≡ slice_get (map row_for rows) (enumerate_count s))
  number_more s t p n h =
      let f = front rows (enumerate_count s) p.1.now (iter_rest (enumerate_source t)) (sym n ∙ h.0) in
      let up : suc (enumerate_count s) ≡ enumerate_count t = omega (arith, h.2) in
      (sym f.1 ∙ ap (λ k. drop k rows) up, h.2, sym f.0)

  numbers : (xs : List (ℕ × Bor Row)) (s t : Enumerate (Iter Row)) → Numbered s → Yields (enumerate_steps fronts) s xs t → Numbered t × (enumerate_count t ≡ enumerate_count s + length xs)
  numbers [] s t n y = subst (λ z. Numbered z × (enumerate_count z ≡ enumerate_count s + 0)) y (n, omega arith)
  numbers (p ∷ xs) s t n y =
      let one = number_more s y.0 p n y.1 in
      let more = numbers xs y.0 t one.0 y.2 in
      (more.0, omega (arith, one.1, more.1))

  -- a row that was taken is the one at its number
  pub row_taken : (s t : Skip (Enumerate (Iter Row))) (p : ℕ × Bor Row) → Numbered (skip_source s) → skip_steps (enumerate_steps fronts) s (Some p) t
      → (p.0 ≡ enumerate_count (skip_source s) + skip_count s) × (Some (row_for p.1.now) ≡ slice_get (map row_for rows) p.0)
      × Numbered (skip_source t) × (enumerate_count (skip_source t) + skip_count t ≡ p.0 + 1)
  row_taken s t p n h =
      let step = h.1.1.2 in
      let all = numbers h.1.0 (skip_source s) h.1.1.0 n h.1.1.1 in
      let one = number_more h.1.1.0 (skip_source t) p all.0 step in
      (omega (arith, step.1, all.1, h.1.2), one.2 ∙ ap (slice_get (map row_for rows)) (sym step.1), one.0, omega (arith, step.1, step.2, h.0))

  -- where none was left, the number is past the end
  pub rows_taken : (s t : Skip (Enumerate (Iter Row))) → Numbered (skip_source s) → skip_steps (enumerate_steps fronts) s None t → length rows ≤ enumerate_count (skip_source s) + skip_count s
  rows_taken s t n h =
      let all = numbers h.1.0 (skip_source s) h.1.1.0 n h.1.1.1 in
      omega (arith, all.1, h.1.2, h.1.1.2.0.0, ap length all.0, length-drop (enumerate_count h.1.1.0) rows)
