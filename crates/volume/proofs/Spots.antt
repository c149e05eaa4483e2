-- The items of a directory are those at its spots, in their order.
use Rattle.std.proofs.Common.{◌≡◌, ℕ, zero, suc, ◌-◌, Bool, true, false, cond, List, [], ◌∷◌, ◌++◌, map, length, get_or, drop, sym, refl, ap, ◌∙◌, arith}
use Rattle.std.proofs.lemmas.List.{map-append}
use Rattle.volume.specs.State.{Slot, blank}
use Rattle.volume.specs.Pair.{Pair}
use Rattle.volume.specs.Global.{Spot, Hiding}
use Rattle.volume.specs.Check.{Item, is_left, items_from, hardly}
use Rattle.volume.specs.Rows.{rows_from, rows_of, next_dir, next_first, items_on}
use Rattle.volume.specs.Spots.{spots_in, spots_from, spots_at, no_pair, item_at}

-- the k-th pair of the list is p, and the entries of p from the id i on are xs
record Here (ps : List Pair) (k i : ℕ) (p : Pair) (xs : List Slot) : Type 0 where
  pair : get_or ps k no_pair ≡ p
  entries : drop i p.state.entries ≡ xs

drop_first : {X : Type 0} (xs : List X) (i : ℕ) (y : X) (ys : List X) → drop i xs ≡ y ∷ ys → (d : X) → (get_or xs i d ≡ y) × (drop (suc i) xs ≡ ys)
drop_first [] zero y ys e d = let bad : ◌≡◌ {A = ℕ} 0 1 = cc in absurd (omega arith)
drop_first [] (suc i) y ys e d = let bad : ◌≡◌ {A = ℕ} 0 1 = cc in absurd (omega arith)
drop_first (x ∷ xs) zero y ys e d = (cc, cc)
drop_first (x ∷ xs) (suc i) y ys e d = drop_first xs i y ys e d

-- the items of one pair
items_in : (ps : List Pair) (h : Hiding) (k i : ℕ) (p : Pair) (xs : List Slot) → Here ps k i p xs → items_from h p.block k i xs ≡ map (item_at ps) (spots_in h k i (length xs))
items_in ps h k i p [] w = refl
items_in ps h k i p (x ∷ xs) w =
    let f = drop_first p.state.entries i x xs w.entries blank in
    let rest = items_in ps h k (suc i) p xs (record { pair = w.pair; entries = f.1 }) in
    let here : record { block = p.block; slot = x } ≡ item_at ps (record { pair = k; id = i }) =
    ap (λ y. record { block = p.block; slot = y }) (sym f.0) ∙ ap (λ (q : Pair). record { block = q.block; slot = get_or q.state.entries i blank }) (sym w.pair) in
    by (is_left h k i) (items_from h p.block k (suc i) xs) (spots_in h k (suc i) (length xs)) rest (record { block = p.block; slot = x }) (record { pair = k; id = i }) here
  where
    by : (v : Bool) (us : List Item) (ss : List Spot) → us ≡ map (item_at ps) ss → (u : Item) (s : Spot) → u ≡ item_at ps s → cond v us (u ∷ us) ≡ map (item_at ps) (cond v ss (s ∷ ss))
    by true us ss e u s f = e
    by false us ss e u s f = ap (λ z. z ∷ us) f ∙ ap (λ zs. item_at ps s ∷ zs) e

-- the rows from the k-th pair on
drop_rows : (n : ℕ) (first : Bool) (ps : List Pair) (k : ℕ) → (m : ℕ) × ((b : Bool) × (drop k (rows_from n first ps) ≡ rows_from m b (drop k ps)))
drop_rows n first ps zero = (n, (first, refl))
drop_rows n first [] (suc k) = (n, (first, refl))
drop_rows n first (p ∷ ps) (suc k) = drop_rows (next_dir n p) (next_first p) ps k

-- the items of a directory, from its k-th pair on
items_on_lem : (all : List Pair) (h : Hiding) (k n : ℕ) (first : Bool) (qs : List Pair) → drop k all ≡ qs → items_on h k qs ≡ map (item_at all) (spots_from h k 0 (rows_from n first qs))
items_on_lem all h k n first [] e = refl
items_on_lem all h k n first (p ∷ qs) e =
    let f = drop_first all k p qs e no_pair in
    let own = items_in all h k 0 p p.state.entries (record { pair = f.0; entries = refl }) in
    let rest = items_on_lem all h (suc k) (next_dir n p) (next_first p) qs f.1 in
    let long : length p.state.entries ≡ length p.state.entries - 0 = omega arith in
    let rs = spots_from h (suc k) 0 (rows_from (next_dir n p) (next_first p) qs) in
    ap (λ us. us ++ cond (hardly p.state.tail) (items_on h (suc k) qs) []) (own ∙ ap (λ m. map (item_at all) (spots_in h k 0 m)) long)
    ∙ ap (λ us. map (item_at all) (spots_in h k 0 (length p.state.entries - 0)) ++ us) (by (hardly p.state.tail) (items_on h (suc k) qs) rs rest)
    ∙ sym (map-append (item_at all) (spots_in h k 0 (length p.state.entries - 0)) (cond (hardly p.state.tail) rs []))
  where
    by : (v : Bool) (us : List Item) (ss : List Spot) → us ≡ map (item_at all) ss → cond v us [] ≡ map (item_at all) (cond v ss [])
    by true us ss q = q
    by false us ss q = refl

-- THE ITEMS OF A DIRECTORY ARE THOSE AT ITS SPOTS
pub spots_items : (h : Hiding) (ps : List Pair) (k : ℕ) → items_on h k (drop k ps) ≡ map (item_at ps) (spots_at h (rows_of ps) k 0)
spots_items h ps k =
    let d = drop_rows 0 true ps k in
    items_on_lem ps h k d.0 d.1.0 (drop k ps) refl ∙ ap (λ rs. map (item_at ps) (spots_from h k 0 rs)) (sym d.1.1)
