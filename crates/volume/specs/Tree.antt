-- A tree of directories and files by name: what both firms must find on a card. It knows nothing of cards.
use Rattle.std.specs.Prelude.{ℕ, zero, suc, Bool, true, false, cond, not, ◌&&◌, ◌||◌, List, [], ◌∷◌, length, Some, None, Option, ◌==◌, nat_le, slice_index}
use Rattle.std.specs.List.{list_all}
use Prim.Native.Nat.{compare, Ordering}

-- a name is its bytes
abbrev pub Name : Type 0
Name = List ℕ

abbrev pub choose : {A : Type 0} → Ordering → A → A → A → A
choose Ordering.lt a b c = a
choose Ordering.eq a b c = b
choose Ordering.gt a b c = c

-- which of two names comes first: by the first byte that differs, and a beginning before what it begins
unfoldable pub order : Name → Name → Ordering
order [] [] = Ordering.eq
order [] (y ∷ ys) = Ordering.lt
order (x ∷ xs) [] = Ordering.gt
order (x ∷ xs) (y ∷ ys) = choose (compare x y) Ordering.lt (order xs ys) Ordering.gt

abbrev pub before : Name → Name → Bool
before a b = choose (order a b) true false false

abbrev pub named : Name → Name → Bool
named a b = choose (order a b) false true false

-- whether no byte of a name is 0 or "/"
abbrev pub plain : Name → Bool
plain n = list_all (λ x. not (x == 0) && not (x == 47)) n

-- whether bytes are "." or ".."
abbrev pub dots : Name → Bool
dots n = (length n == 1 && slice_index n 0 == 46) || (length n == 2 && (slice_index n 0 == 46 && slice_index n 1 == 46))

-- whether bytes are a name: 1 to 64 of them, none 0 or "/", and neither "." nor ".."
unfoldable pub is_name : Name → Bool
is_name n = nat_le 1 (length n) && (nat_le (length n) 64 && (plain n && not (dots n)))

-- A tree: a file is its bytes, a directory its entries, whose names ascend.
mutual
  pub data Node : Type 0 where
    file : List ℕ → Node
    directory : Entries → Node

  pub data Entries : Type 0 where
    none : Entries
    entry : Name → Node → Entries → Entries

-- the entry of a name
unfoldable pub child : Name → Entries → Option Node
child n none = None
child n (entry k t es) = cond (named n k) (Some t) (child n es)

-- the entry at a place, with its name, counted from 0
unfoldable pub nth : ℕ → Entries → Option (Name × Node)
nth i none = None
nth zero (entry n t es) = Some (n, t)
nth (suc i) (entry n t es) = nth i es

abbrev pub below : (Node → Option Node) → Option Node → Option Node
below f None = None
below f (Some t) = f t

-- what stands at a path
unfoldable pub lookup : List Name → Node → Option Node
lookup [] t = Some t
lookup (n ∷ p) (file b) = None
lookup (n ∷ p) (directory es) = below (lookup p) (child n es)

-- a change of the entry of a name
unfoldable pub at : Name → (Node → Node) → Entries → Entries
at n f none = none
at n f (entry k t es) = cond (named n k) (entry k (f t) es) (entry k t (at n f es))

-- a change of the entries of the directory at a path
unfoldable pub edit : List Name → (Entries → Entries) → Node → Node
edit [] f (file b) = file b
edit [] f (directory es) = directory (f es)
edit (n ∷ p) f (file b) = file b
edit (n ∷ p) f (directory es) = directory (at n (edit p f) es)

-- an entry put in in order, or in place of the one of that name
unfoldable pub with_entry : Name → Node → Entries → Entries
with_entry n v none = entry n v none
with_entry n v (entry k t es) = choose (order n k) (entry n v (entry k t es)) (entry n v es) (entry k t (with_entry n v es))

-- without the entry of that name
unfoldable pub without : Name → Entries → Entries
without n none = none
without n (entry k t es) = cond (named n k) es (entry k t (without n es))

abbrev pub put : Name → Option Node → Entries → Entries
put n None es = without n es
put n (Some t) es = with_entry n t es

-- THE ONE CHANGE OF A TREE: in the directory at p, the entry n is v, or is no more
unfoldable pub set : Node → List Name → Name → Option Node → Node
set t p n v = edit p (put n v) t
