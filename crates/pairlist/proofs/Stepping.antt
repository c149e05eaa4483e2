-- One id more of a pair, and one pair more of a directory.
use Rattle.std.proofs.Common.{◌≡◌, ℕ, zero, suc, ◌+◌, ◌-◌, ◌<◌, ◌≤◌, Bool, true, false, cond, not, List, [], ◌∷◌, ◌++◌, length, get_or, drop, Some, None, Option, sym, refl, ap, ◌∙◌, add-one, arith}
use Rattle.std.proofs.lemmas.List.{drop_more}
use Rattle.std.proofs.lemmas.Option.{slice_get-get_or}
use Rattle.std.specs.List.{find, range_with_len, slice_get}
use Rattle.volume.specs.Global.{Hiding}
use Rattle.volume.specs.Check.{is_left}
use Rattle.volume.specs.Rows.{Row, no_row}
use Rattle.volume.specs.Spots.{spots_in, spots_from, spots_at}
use Rattle.pairlist.specs.Entries.{IdFound, NextId}

-- the ids from i on, by the id i
pub ids_step : (h : Hiding) (k i count : ℕ) → i < count → spots_in h k i (count - i) ≡ cond (is_left h k i) (spots_in h k (i + 1) (count - (i + 1))) (record { pair = k; id = i } ∷ spots_in h k (i + 1) (count - (i + 1)))
ids_step h k i count l =
    let long : count - i ≡ suc (count - (i + 1)) = omega arith in
    ap (spots_in h k i) long ∙ ap (λ j. cond (is_left h k i) (spots_in h k j (count - (i + 1))) (record { pair = k; id = i } ∷ spots_in h k j (count - (i + 1)))) (sym (add-one i))

-- no id is left
pub ids_none : (h : Hiding) (k i count : ℕ) → count ≤ i → spots_in h k i (count - i) ≡ []
ids_none h k i count l = let none : count - i ≡ 0 = omega arith in ap (spots_in h k i) none

-- an id that is left out does not matter
next_later : (h : Hiding) (k i count : ℕ) (r : Option ℕ) → i < count → is_left h k i ≡ true → NextId h k (i + 1) count r → NextId h k i count r
next_later h k i count None l left none = ids_step h k i count l ∙ ap (λ (v : Bool). cond v (spots_in h k (i + 1) (count - (i + 1))) (record { pair = k; id = i } ∷ spots_in h k (i + 1) (count - (i + 1)))) left ∙ none
next_later h k i count (Some j) l left f = record {
  behind = omega (arith, f.behind);
  within = f.within;
  next = ids_step h k i count l ∙ ap (λ (v : Bool). cond v (spots_in h k (i + 1) (count - (i + 1))) (record { pair = k; id = i } ∷ spots_in h k (i + 1) (count - (i + 1)))) left ∙ f.next;
}

-- the first id that is not left out is the next one
pub next_found : (h : Hiding) (k m i count : ℕ) → count - i ≡ m → NextId h k i count (find (λ id. not (is_left h k id)) (range_with_len i m))
next_found h k zero i count none = ids_none h k i count (omega arith)
next_found h k (suc m) i count more = by (is_left h k i) refl (next_found h k m (i + 1) count (omega arith))
  where
    by : (v : Bool) → is_left h k i ≡ v → NextId h k (i + 1) count (find (λ id. not (is_left h k id)) (range_with_len (i + 1) m)) → NextId h k i count (cond (not v) (Some i) (find (λ id. not (is_left h k id)) (range_with_len (i + 1) m)))
    by true left rest = next_later h k i count _ (omega arith) left rest
    by false left rest = record {
      behind = omega arith;
      within = omega arith;
      next = ids_step h k i count (omega arith) ∙ ap (λ (v : Bool). cond v (spots_in h k (i + 1) (count - (i + 1))) (record { pair = k; id = i } ∷ spots_in h k (i + 1) (count - (i + 1)))) left;
    }

-- the entries from the k-th pair on, by its row
pub spots_step : (h : Hiding) (rows : List Row) (k i : ℕ) → k < length rows → spots_at h rows k i ≡ spots_in h k i ((get_or rows k no_row).count - i) ++ cond (get_or rows k no_row).hard (spots_at h rows (k + 1) 0) []
spots_step h rows k i l =
    ap (spots_from h k i) (drop_more rows k no_row l)
    ∙ ap (λ j. spots_in h k i ((get_or rows k no_row).count - i) ++ cond (get_or rows k no_row).hard (spots_from h j 0 (drop (k + 1) rows)) []) (sym (add-one k))

-- a row that is there
pub row_there : (rows : List Row) (k : ℕ) (r : Row) → Some r ≡ slice_get rows k → (k < length rows) × (get_or rows k no_row ≡ r)
row_there [] k r e = let bad : ◌≡◌ {A = ℕ} 0 1 = cc in absurd (omega arith)
row_there (x ∷ xs) zero r e = (omega arith, cc)
row_there (x ∷ xs) (suc k) r e = let t = row_there xs k r e in (omega (arith, t.0), t.1)

-- no row is there
pub row_missing : (rows : List Row) (k : ℕ) → k < length rows → None ≡ slice_get rows k → ⊥
row_missing rows k l e = let some = slice_get-get_or rows k no_row l in let bad : ◌≡◌ {A = ℕ} 0 1 = cc in omega arith

module _ (h : Hiding) (rows : List Row) (k : ℕ) (r : Row) (there : Some r ≡ slice_get rows k) where
  -- the entries from the k-th pair on, by a row that is there
  by_row : (i : ℕ) → spots_at h rows k i ≡ spots_in h k i (r.count - i) ++ cond r.hard (spots_at h rows (k + 1) 0) []
  by_row i = let t = row_there rows k r there in spots_step h rows k i t.0 ∙ ap (λ (q : Row). spots_in h k i (q.count - i) ++ cond q.hard (spots_at h rows (k + 1) 0) []) t.1

  -- the next entry is one of the k-th pair
  pub entry_here : (i j : ℕ) → IdFound h k i r.count j → spots_at h rows k i ≡ record { pair = k; id = j } ∷ spots_at h rows k (j + 1)
  entry_here i j f = by_row i ∙ ap (λ ss. ss ++ cond r.hard (spots_at h rows (k + 1) 0) []) f.next ∙ ap (λ ss. record { pair = k; id = j } ∷ ss) (sym (by_row (j + 1)))

  -- the k-th pair has no more
  pub pair_done : (i : ℕ) (v : Bool) → r.hard ≡ v → spots_in h k i (r.count - i) ≡ [] → spots_at h rows k i ≡ cond v (spots_at h rows (k + 1) 0) []
  pair_done i v e none = by_row i ∙ ap (λ ss. ss ++ cond r.hard (spots_at h rows (k + 1) 0) []) none ∙ ap (λ w. cond w (spots_at h rows (k + 1) 0) []) e
