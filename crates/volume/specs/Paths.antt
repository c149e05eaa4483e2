-- Paths as bytes, and what stands at one.
use Rattle.std.specs.Prelude.{ℕ, cond, ◌&&◌, List, [], ◌∷◌, ◌++◌, length, Some, None, Option, ◌==◌, nat_le}
use Rattle.std.specs.List.{list_all}
use Rattle.volume.specs.Tree.{Name, is_name, Node, file, directory, child}

-- "/"
abbrev pub slash : ℕ
slash = 47

-- the parts between the slashes, the first of them begun
abbrev pub split_from : Name → List ℕ → List Name
split_from begun [] = begun ∷ []
split_from begun (x ∷ xs) = cond (x == slash) (begun ∷ split_from [] xs) (split_from (begun ++ x ∷ []) xs)

-- parts that are all names, and not too many
abbrev pub named : List Name → Option (List Name)
named ns = cond (list_all is_name ns && nat_le (length ns) 8) (Some ns) None

-- The names of a path: none for "/" alone, else up to eight, each behind one "/". Anything else is no path.
unfoldable pub path_of : List ℕ → Option (List Name)
path_of [] = None
path_of (x ∷ []) = cond (x == slash) (Some []) None
path_of (x ∷ y ∷ ys) = cond (x == slash) (named (split_from [] (y ∷ ys))) None

-- what stands at a path: nothing, since a name on the way is missing; nothing, since a file stands on the way; or something
pub data Found : Type 0 where
  missing : Found
  blocked : Found
  found : Node → Found

abbrev pub onward : (Node → Found) → Option Node → Found
onward f None = missing
onward f (Some t) = f t

-- a path is walked name by name, and a file on the way ends it
unfoldable pub find : List Name → Node → Found
find [] t = found t
find (n ∷ p) (file b) = blocked
find (n ∷ p) (directory es) = onward (find p) (child n es)
