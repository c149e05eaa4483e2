-- The total of what a log's items say: of each tag in a commit its type, its id and how many bytes of data it has, and of
-- each tag that ends a commit its id. It differs where a reader gives an item too many, too few or a wrong one.
use Rattle.std.specs.Prelude.{ℕ, ◌+◌, List, [], ◌∷◌, length}
use Rattle.metalog.specs.Log.{Item, held, ended}

abbrev pub weight_of : Item → ℕ
weight_of (held e) = e.kind + e.id + length e.bytes
weight_of (ended e) = e.id

abbrev pub total_of : List Item → ℕ
total_of [] = 0
total_of (x ∷ xs) = weight_of x + total_of xs
