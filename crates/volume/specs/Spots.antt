-- The entries of a directory as spots of the list: the place of a pair, and an id in it.
use Rattle.std.specs.Prelude.{ℕ, zero, suc, ◌-◌, cond, List, [], ◌∷◌, ◌++◌, get_or, drop, slice_index_or}
use Rattle.volume.specs.State.{blank, start}
use Rattle.volume.specs.Pair.{Pair}
use Rattle.volume.specs.Global.{Spot, Hiding}
use Rattle.volume.specs.Check.{Item, is_left}
use Rattle.volume.specs.Rows.{Row}

-- n ids from i on of the k-th pair, but for those that are none of the tree
abbrev pub spots_in : Hiding → ℕ → ℕ → ℕ → List Spot
spots_in h k i zero = []
spots_in h k i (suc n) = cond (is_left h k i) (spots_in h k (suc i) n) (record { pair = k; id = i } ∷ spots_in h k (suc i) n)

-- the entries of a directory from the id i of its k-th pair on, by the rows from there on
abbrev pub spots_from : Hiding → ℕ → ℕ → List Row → List Spot
spots_from h k i [] = []
spots_from h k i (r ∷ rs) = spots_in h k i (r.count - i) ++ cond r.hard (spots_from h (suc k) 0 rs) []

-- THE ENTRIES OF A DIRECTORY from a spot on, by the rows of the whole list
abbrev pub spots_at : Hiding → List Row → ℕ → ℕ → List Spot
spots_at h rows k i = spots_from h k i (drop k rows)

-- the pair where there is none
abbrev pub no_pair : Pair
no_pair = record { a = 0; b = 0; block = 0; state = start }

-- the item at a spot of a list of pairs
abbrev pub item_at : List Pair → Spot → Item
item_at ps s = record { block = (get_or ps s.pair no_pair).block; slot = slice_index_or (get_or ps s.pair no_pair).state.entries s.id blank }
