-- A pair of blocks: which of its two logs counts, and the state that it gives, or a fault of the log.
use Rattle.std.specs.Prelude.{ℕ, Bool, true, false, List, [], ◌∷◌, Ok, Err, Result}
use Rattle.flash.specs.Card.{Card, bytes}
use Rattle.metalog.specs.Log.{Item, items_of}
use Rattle.metalog.specs.Revision.{newer}
use Rattle.metalog.specs.Tag.{le32}
use Rattle.volume.specs.State.{State, start, finished, Folded, state, wrong, fold_items}
use Rattle.volume.specs.declared.fault.Fault.{Fault}
use Rattle.volume.specs.declared.fault.What.{What}
use Rattle.volume.specs.declared.fault.What.TheVariants.{NoCommit, NoNewer, Tag}

abbrev pub fault : What → ℕ → ℕ → Fault
fault what block byte = record { what = what; block = block; byte = byte }

-- what is read of the finished commits of a block
abbrev pub finished_of : List ℕ → List Item
finished_of b = finished (items_of b)

abbrev pub is_empty : List Item → Bool
is_empty [] = true
is_empty (x ∷ xs) = false

-- which of two blocks a pair is read from: the one with a finished commit; of two, the one with the newer revision
pub data Choice : Type 0 where
  first : Choice
  second : Choice
  no_commit : Choice
  no_newer : Choice

-- by whether each is without a finished commit, and by whether each is newer than the other
abbrev pub chosen : Bool → Bool → Bool → Bool → Choice
chosen true true x y = no_commit
chosen false true x y = first
chosen true false x y = second
chosen false false true y = first
chosen false false false true = second
chosen false false false false = no_newer

abbrev pub choice : List ℕ → List ℕ → Choice
choice p q = chosen (is_empty (finished_of p)) (is_empty (finished_of q)) (newer (le32 p 0) (le32 q 0)) (newer (le32 q 0) (le32 p 0))

-- a pair as it was read: its blocks as they were named, the block whose log counts, and its state
pub record Pair : Type 0 where
  pub a : ℕ
  pub b : ℕ
  pub block : ℕ
  pub state : State

abbrev pub judged : ℕ → ℕ → ℕ → Folded → Result Pair Fault
judged a b block (state s) = Ok (record { a = a; b = b; block = block; state = s })
judged a b block (wrong at) = Err (fault Tag block at)

-- the pair whose state's block is `block`
abbrev pub read_at : Card → ℕ → ℕ → ℕ → Result Pair Fault
read_at c a b block = judged a b block (fold_items start (finished_of (bytes c block)))

abbrev pub read_by : Choice → Card → ℕ → ℕ → Result Pair Fault
read_by first c a b = read_at c a b a
read_by second c a b = read_at c a b b
read_by no_commit c a b = Err (fault NoCommit a 0)
read_by no_newer c a b = Err (fault NoNewer a 0)

-- THE PAIR of two blocks, or a fault of its log
unfoldable pub read_pair : Card → ℕ → ℕ → Result Pair Fault
read_pair c a b = read_by (choice (bytes c a) (bytes c b)) c a b
