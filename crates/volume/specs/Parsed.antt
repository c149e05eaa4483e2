-- The names of a path as places in its bytes: what the code keeps of a path that was parsed.
use Rattle.std.specs.Prelude.{◌≡◌, ℕ, ◌+◌, ◌-◌, ◌≤◌, cond, List, [], ◌∷◌, map, length, take, drop, Some, None, Option, nat_lt}
use Rattle.volume.specs.Tree.{Name}
use Rattle.volume.specs.Paths.{split_from, path_of}
use Rattle.volume.specs.declared.paths.Place.{Place}
use Rattle.volume.specs.declared.paths.PathNames.{PathNames}

-- the place of no name
abbrev pub no_place : Place
no_place = record { start = 0; end = 0 }

-- the bytes of a path at a place
abbrev pub name_at : List ℕ → Place → Name
name_at path p = take (p.end - p.start) (drop p.start path)

-- the names of a path at the first places of a table
unfoldable pub names_at : List ℕ → List Place → ℕ → List Name
names_at path places n = map (name_at path) (take n places)

-- THE NAMES OF A PATH, by their places
abbrev pub names_in : List ℕ → PathNames → List Name
names_in path ns = names_at path ns.places ns.count

-- the parts behind the end of one: none, if it ends where the path does
abbrev pub parts_behind : List ℕ → ℕ → List Name
parts_behind path end = cond (nat_lt end (length path)) (split_from [] (drop (end + 1) path)) []

-- the first part from a place on goes to `end`
pub record PartEnds (path : List ℕ) (start end : ℕ) : Type 0 where
  pub low : start ≤ end
  pub high : end ≤ length path
  pub parts : split_from [] (drop start path) ≡ name_at path (record { start = start; end = end }) ∷ parts_behind path end

-- names that were found, up to eight
pub record FoundNames (path : List ℕ) (names : Option (List Name)) (ns : PathNames) : Type 0 where
  pub few : ns.count ≤ 8
  pub room : length ns.places ≡ 8
  pub are : names ≡ Some (names_in path ns)

-- the names of a path, or none where it has none
abbrev pub NamesOf : List ℕ → Option (List Name) → Option PathNames → Type 0
NamesOf path names None = names ≡ None
NamesOf path names (Some ns) = FoundNames path names ns

-- WHAT PARSING A PATH ANSWERS: nothing, if the bytes are no path; else its names
abbrev pub Parsed : List ℕ → Option PathNames → Type 0
Parsed path r = NamesOf path (path_of path) r
