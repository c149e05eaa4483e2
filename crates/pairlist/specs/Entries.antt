-- The entries of a directory, one after the other.
use Rattle.std.specs.Prelude.{◌≡◌, ℕ, ◌+◌, ◌-◌, ◌<◌, ◌≤◌, ◌⊎◌, List, [], ◌∷◌, Some, None, Option}
use Rattle.std.specs.List.{slice_get}
use Rattle.volume.specs.Global as global
use Rattle.volume.specs.Global.{Hiding, shows, hides}
use Rattle.volume.specs.Rows.{Row}
use Rattle.volume.specs.Spots.{spots_in, spots_at}
use Rattle.pairlist.specs.declared.entries.Spot.{Spot}

abbrev pub spot_for : Spot → global.Spot
spot_for s = record { pair = s.row; id = s.id }

-- what is hidden, as it is kept
abbrev pub hiding_for : Option Spot → Hiding
hiding_for None = shows
hiding_for (Some s) = hides (spot_for s)

-- the next id of a pair that is an entry of the tree, from the id i on
pub record IdFound (h : Hiding) (k i count j : ℕ) : Type 0 where
  pub behind : i ≤ j
  pub within : j < count
  pub next : spots_in h k i (count - i) ≡ record { pair = k; id = j } ∷ spots_in h k (j + 1) (count - (j + 1))

abbrev pub NextId : Hiding → ℕ → ℕ → ℕ → Option ℕ → Type 0
NextId h k i count (Some j) = IdFound h k i count j
NextId h k i count None = spots_in h k i (count - i) ≡ []

-- the next entry of a directory, from the id i of the k-th pair on: it is there, it comes first of what is left, and what is
-- left behind it are the entries from the next id on
pub record EntryFound (h : Hiding) (rows : List Row) (k i : ℕ) (s : Spot) : Type 0 where
  pub row : Row
  pub there : slice_get rows s.row ≡ Some row
  pub within : s.id < row.count
  pub behind : (k < s.row) ⊎ ((s.row ≡ k) × (i ≤ s.id))
  pub next : spots_at h rows k i ≡ spot_for s ∷ spots_at h rows s.row (s.id + 1)

abbrev pub NextEntry : Hiding → List Row → ℕ → ℕ → Option Spot → Type 0
NextEntry h rows k i (Some s) = EntryFound h rows k i s
NextEntry h rows k i None = spots_at h rows k i ≡ []
