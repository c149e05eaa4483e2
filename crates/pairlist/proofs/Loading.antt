-- A pair of the list that is read again, by its row, is the pair.
use Rattle.std.proofs.Common.{◌≡◌, ℕ, zero, suc, ◌<◌, ◌≤◌, true, ◌&&◌, ◌||◌, eqb, leb, List, [], ◌∷◌, length, get_or, Some, None, Ok, sym, ap, ◌∙◌, inl, inr, arith}
use Rattle.std.proofs.lemmas.Bool.{and_parts, or_cases, eqb-true, leb-true}
use Rattle.std.specs.List.{slice_get}
use Rattle.flash.specs.Card.{Card, Shaped}
use Rattle.pairs.specs.Pairs.{pair_at}
use Rattle.pairs.proofs.Choosing.{pair_at_lem}
use Rattle.volume.specs.Check.{is_size}
use Rattle.volume.specs.Pair.{Pair}
use Rattle.volume.specs.Rows.{Row, no_row, rows_of}
use Rattle.volume.specs.Spots.{no_pair}
use Rattle.volume.proofs.Rows.{length_rows, row_at}
use Rattle.pairlist.specs.Desks.{Listed}
use Rattle.pairlist.specs.Rows.{row_for, rows_in}
use Rattle.pairlist.specs.declared.rows.Row as code
use Rattle.pairlist.specs.declared.rows.PairList.{PairList}
use Rattle.pairlist.proofs.Rereading.{list_rereads}
use Rattle.pairlist.proofs.Stepping.{row_there, row_missing}

-- a size that a card may have
pub sizes : (size count : ℕ) → is_size size count ≡ true → (size ≤ 4096) × ((512 ≤ size) × ((8 ≤ count) × (count ≤ 4096)))
sizes size count e =
    let both = and_parts (eqb size 512 || (eqb size 1024 || (eqb size 2048 || eqb size 4096))) (leb 8 count && leb count 4096) e in
    let counts = and_parts (leb 8 count) (leb count 4096) both.1 in
    let one : (size ≤ 4096) × (512 ≤ size) = by both.0 in
    (one.0, (one.1, (leb-true 8 count counts.0, leb-true count 4096 counts.1)))
  where
    by : (eqb size 512 || (eqb size 1024 || (eqb size 2048 || eqb size 4096))) ≡ true → (size ≤ 4096) × (512 ≤ size)
    by h = elim (or_cases (eqb size 512) (eqb size 1024 || (eqb size 2048 || eqb size 4096)) h) [
      | inl q ↦ (let is = eqb-true size 512 q in (omega arith, omega arith))
      | inr h1 ↦ elim (or_cases (eqb size 1024) (eqb size 2048 || eqb size 4096) h1) [
        | inl q ↦ (let is = eqb-true size 1024 q in (omega arith, omega arith))
        | inr h2 ↦ elim (or_cases (eqb size 2048) (eqb size 4096) h2) [
          | inl q ↦ (let is = eqb-true size 2048 q in (omega arith, omega arith))
          | inr q ↦ (let is = eqb-true size 4096 q in (omega arith, omega arith))
        ]
      ]
    ]

-- a pair that is there
pub pair_there : (ps : List Pair) (k : ℕ) (p : Pair) → slice_get ps k ≡ Some p → (k < length ps) × (get_or ps k no_pair ≡ p)
pair_there [] k p e = let bad : ◌≡◌ {A = ℕ} 0 1 = cc in absurd (omega arith)
pair_there (x ∷ xs) zero p e = (omega arith, cc)
pair_there (x ∷ xs) (suc k) p e = let t = pair_there xs k p e in (omega (arith, t.0), t.1)

module _ (c : Card) (ps : List Pair) (l : PairList) (k : ℕ) (p : Pair) (listed : Listed c ps l) (there : slice_get ps k ≡ Some p) where
  -- its row is there
  pub row_stays : None ≡ slice_get (rows_in l) k → ⊥
  row_stays none = row_missing (rows_in l) k (omega (arith, ap length listed.rows, length_rows 0 true ps, (pair_there ps k p there).0)) none

  -- by its row it is read again
  pub row_reads : Shaped c → (r : code.Row) → Some (row_for r) ≡ slice_get (rows_in l) k → pair_at c r.pair.first r.pair.second ≡ Ok p
  row_reads s r e =
      let q = pair_there ps k p there in
      let row = (row_there (rows_in l) k (row_for r) e).1 in
      let told = row_at 0 true ps k no_pair q.0 in
      let same : row_for r ≡ get_or (rows_of ps) k no_row = sym row ∙ ap (λ rs. get_or rs k no_row) listed.rows in
      let is_a : r.pair.first ≡ p.a = ap (λ (x : Row). x.a) same ∙ told.a ∙ ap (λ (x : Pair). x.a) q.1 in
      let is_b : r.pair.second ≡ p.b = ap (λ (x : Row). x.b) same ∙ told.b ∙ ap (λ (x : Pair). x.b) q.1 in
      let size = sizes c.size (length c.blocks) listed.card.sized in
      let again = list_rereads c ps k p s (omega (arith, size.1.1.0)) listed.list there in
      ap (λ x. pair_at c x r.pair.second) is_a ∙ ap (pair_at c p.a) is_b ∙ pair_at_lem c p.a p.b listed.card.bright size.0 again.first again.second ∙ again.read
