-- The list of pairs as a table with a row for each pair: its directory by number, and what a reader asks of it.
use Rattle.std.specs.Prelude.{ℕ, suc, Bool, true, false, cond, not, ◌&&◌, ◌||◌, List, [], ◌∷◌, ◌++◌, length, Some, None, Option, ◌==◌, nat_lt, slice_index_or}
use Rattle.volume.specs.Pair.{Pair}
use Rattle.volume.specs.Global.{same_blocks, Spot, Hiding}
use Rattle.volume.specs.Check.{Item, items_from, hardly}

-- ---- the table

-- a pair in the table: its blocks, the block whose log counts, how many entries it has, whether it goes on in the next pair,
-- the number of its directory, and whether it is the directory's first pair
pub record Row : Type 0 where
  pub a : ℕ
  pub b : ℕ
  pub block : ℕ
  pub count : ℕ
  pub hard : Bool
  pub dir : ℕ
  pub first : Bool

-- the row where there is none: the first pair of no directory
abbrev pub no_row : Row
no_row = record { a = 0; b = 0; block = 0; count = 0; hard = false; dir = 0; first = false }

-- the row of a pair of the n-th directory
abbrev pub row_of : ℕ → Bool → Pair → Row
row_of n first p = record { a = p.a; b = p.b; block = p.block; count = length p.state.entries; hard = hardly p.state.tail; dir = n; first = first }

-- the number of the directory of the next pair, behind one of the n-th directory
abbrev pub next_dir : ℕ → Pair → ℕ
next_dir n p = cond (hardly p.state.tail) n (suc n)

-- whether the next pair is the first of its directory
abbrev pub next_first : Pair → Bool
next_first p = not (hardly p.state.tail)

-- the rows from a pair of the n-th directory on
abbrev pub rows_from : ℕ → Bool → List Pair → List Row
rows_from n first [] = []
rows_from n first (p ∷ ps) = row_of n first p ∷ rows_from (next_dir n p) (next_first p) ps

-- THE TABLE: the rows of the whole list
abbrev pub rows_of : List Pair → List Row
rows_of ps = rows_from 0 true ps

-- the number of the directory behind some pairs
abbrev pub dir_after : ℕ → List Pair → ℕ
dir_after n [] = n
dir_after n (p ∷ ps) = dir_after (next_dir n p) ps

-- whether a pair behind some pairs is the first of its directory
abbrev pub first_after : Bool → List Pair → Bool
first_after first [] = first
first_after first (p ∷ ps) = first_after (next_first p) ps

-- ---- what is looked for in it

-- where the first row is that begins a directory and has a pair of blocks, counted from i
abbrev pub find_row_from : ℕ → List Row → ℕ → ℕ → Option ℕ
find_row_from i [] x y = None
find_row_from i (r ∷ rs) x y = cond (r.first && same_blocks r.a r.b x y) (Some i) (find_row_from (suc i) rs x y)

-- the same in the whole table
abbrev pub find_row : List Row → ℕ → ℕ → Option ℕ
find_row rs x y = find_row_from 0 rs x y

-- the number of the directory of a row that was found
abbrev pub dir_at : List Row → Option ℕ → Option ℕ
dir_at rs None = None
dir_at rs (Some i) = Some (slice_index_or rs i no_row).dir

-- where the first row is that has a pair of blocks, counted from i
abbrev pub find_pair_from : ℕ → List Row → ℕ → ℕ → Option ℕ
find_pair_from i [] x y = None
find_pair_from i (r ∷ rs) x y = cond (same_blocks r.a r.b x y) (Some i) (find_pair_from (suc i) rs x y)

-- the same in the whole table
abbrev pub find_pair : List Row → ℕ → ℕ → Option ℕ
find_pair rs x y = find_pair_from 0 rs x y

-- the entry with an id in a row that was found, if the row has that many
abbrev pub spot_at : List Row → Option ℕ → ℕ → Option Spot
spot_at rs None id = None
spot_at rs (Some i) id = cond (nat_lt id (slice_index_or rs i no_row).count) (Some (record { pair = i; id = id })) None

-- the items of a directory, from one of its pairs on, which is the k-th of the list
abbrev pub items_on : Hiding → ℕ → List Pair → List Item
items_on h k [] = []
items_on h k (p ∷ ps) = items_from h p.block k 0 p.state.entries ++ cond (hardly p.state.tail) (items_on h (suc k) ps) []

-- the block of the first directory, but for the root, whose number is not in a set; `in_set` tells whether one is
abbrev pub first_orphan : (ℕ → Bool) → List Row → Option ℕ
first_orphan in_set [] = None
first_orphan in_set (r ∷ rs) = cond (r.first && not (r.dir == 0 || in_set r.dir)) (Some r.block) (first_orphan in_set rs)
