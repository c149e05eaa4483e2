-- The ways from one directory of a card to another: by the names of entries, each of which leads to the directory that it names.
use Rattle.std.specs.Prelude.{◌≡◌, ℕ, true, cond, ◌||◌, List, [], ◌∷◌, Some, None, Option, ◌==◌}
use Rattle.volume.specs.Thread.{member}
use Rattle.volume.specs.Tree.{Name, named}
use Rattle.volume.specs.Check.{Item, Dir, dirs_from, find_dir, items_at, Fit, file_inline, file_skip, dir_pair, extra_superblock, unfit, fit_of, orphans_from, Reading}

-- the directories of a card that was read, the root first; a directory's number is its place in this list
abbrev pub dirs_of : Reading → List Dir
dirs_of r = dirs_from r.hiding 0 r.pairs

-- where an entry leads by a name: a directory of that name to its number, and any other to where the entries behind it lead
abbrev pub leads : List Dir → Name → Fit → Option ℕ → Option ℕ
leads ds n (dir_pair k a b) rest = cond (named n k) (find_dir 0 ds a b) rest
leads ds n (file_inline k xs) rest = rest
leads ds n (file_skip k h size) rest = rest
leads ds n extra_superblock rest = rest
leads ds n unfit rest = rest

-- where the first directory of a name leads, of some entries
abbrev pub step_in : List Dir → List Item → Name → Option ℕ
step_in ds [] n = None
step_in ds (x ∷ xs) n = leads ds n (fit_of x.slot) (step_in ds xs n)

-- the number of the directory that the entry named n of the k-th directory leads to
abbrev pub step : List Dir → ℕ → Name → Option ℕ
step ds k n = step_in ds (items_at k ds) n

-- one step, and what comes of it
abbrev pub onward : Option ℕ → (ℕ → Option ℕ) → Option ℕ
onward None f = None
onward (Some k) f = f k

-- the number of the directory at a path from the k-th directory: the names of the path are followed one by one
abbrev pub way : List Dir → ℕ → List Name → Option ℕ
way ds k [] = Some k
way ds k (n ∷ p) = onward (step ds k n) (λ j. way ds j p)

-- Each directory of a card that was read, but for its orphans, is reached from the root by exactly one path, and no orphan is.
pub record Reached (r : Reading) : Type 0 where
  -- different paths lead to different directories
  pub once : (k : ℕ) (p q : List Name) → way (dirs_of r) 0 p ≡ Some k → way (dirs_of r) 0 q ≡ Some k → p ≡ q
  -- the numbers of the directories below the root
  pub below : List ℕ
  -- the orphans are the directories that are neither the root nor below it
  pub orphans : r.orphans ≡ orphans_from 0 below (dirs_of r)
  -- some path leads to each of the others
  pub path : (k : ℕ) → (k == 0 || member k below) ≡ true → (p : List Name) × (way (dirs_of r) 0 p ≡ Some k)
  -- and every path to one of them
  pub only : (k : ℕ) (p : List Name) → way (dirs_of r) 0 p ≡ Some k → (k == 0 || member k below) ≡ true
