-- A search through the rows as they are kept is the search through what they stand for.
use Rattle.std.proofs.Common.{◌≡◌, ℕ, ◌+◌, Bool, true, false, cond, not, ◌&&◌, ◌||◌, eqb, List, [], ◌∷◌, map, Some, refl, ap, ◌∙◌, add-one}
use Rattle.std.specs.List.{find, position_from}
use Rattle.std.specs.Option.{option_map}
use Rattle.volume.specs.Global.{same_blocks}
use Rattle.volume.specs.Rows.{find_row_from, find_pair_from, first_orphan}
use Rattle.pairlist.specs.Rows.{row_for}
use Rattle.pairlist.specs.declared.rows.Row as code

module _ (x y : ℕ) where
  pub position_first : (i : ℕ) (rows : List code.Row) → position_from (λ (r : code.Row). r.first && same_blocks r.pair.first r.pair.second x y) i rows ≡ find_row_from i (map row_for rows) x y
  position_first i [] = refl
  position_first i (r ∷ rows) = ap (cond (r.first && same_blocks r.pair.first r.pair.second x y) (Some i)) (position_first (i + 1) rows ∙ ap (λ k. find_row_from k (map row_for rows) x y) (add-one i))

  pub position_pair : (i : ℕ) (rows : List code.Row) → position_from (λ (r : code.Row). same_blocks r.pair.first r.pair.second x y) i rows ≡ find_pair_from i (map row_for rows) x y
  position_pair i [] = refl
  position_pair i (r ∷ rows) = ap (cond (same_blocks r.pair.first r.pair.second x y) (Some i)) (position_pair (i + 1) rows ∙ ap (λ k. find_pair_from k (map row_for rows) x y) (add-one i))

pub find_orphan : (in_set : ℕ → Bool) (rows : List code.Row) → option_map (λ (r : code.Row). r.block) (find (λ (r : code.Row). r.first && not (eqb r.dir 0 || in_set r.dir)) rows) ≡ first_orphan in_set (map row_for rows)
find_orphan in_set [] = refl
find_orphan in_set (r ∷ rows) = by (r.first && not (eqb r.dir 0 || in_set r.dir)) ∙ ap (cond (r.first && not (eqb r.dir 0 || in_set r.dir)) (Some r.block)) (find_orphan in_set rows)
  where
    by : (v : Bool) → option_map (λ (r : code.Row). r.block) (cond v (Some r) (find (λ (r : code.Row). r.first && not (eqb r.dir 0 || in_set r.dir)) rows)) ≡ cond v (Some r.block) (option_map (λ (r : code.Row). r.block) (find (λ (r : code.Row). r.first && not (eqb r.dir 0 || in_set r.dir)) rows))
    by true = refl
    by false = refl
