-- Which torn writes are clean: those that no reader of the list can take for something that was never written.
use Rattle.std.specs.Prelude.{◌≡◌, ℕ, zero, suc, false, ◌⊎◌, List, [], ◌∷◌, length, take, Some, None, Ok, Err, Option, Result}
use Rattle.flash.specs.Card.{Card, bytes}
use Rattle.flash.specs.Write.{Write, program, erase, target, intended}
use Rattle.metalog.specs.Log.{Entry, Item, held, ended}
use Rattle.metalog.specs.Tag.{le32}
use Rattle.volume.specs.declared.fault.Fault.{Fault}
use Rattle.volume.specs.declared.fault.What.{What}
use Rattle.volume.specs.Pair.{Pair, read_pair, finished_of}
use Rattle.volume.specs.Thread.{Next, ends, goes, next_of, pair_fault, member}

-- what counts when two logs are compared: the tags, and of those that end a commit the id
pub data Mark : Type 0 where
  tag : Entry → Mark
  end : ℕ → Mark

abbrev pub marks_of : List Item → List Mark
marks_of [] = []
marks_of (held e ∷ xs) = tag e ∷ marks_of xs
marks_of (ended e ∷ xs) = end e.id ∷ marks_of xs

-- a log as it counts when two are compared; one without a finished commit is empty, whatever its revision
pub record Log : Type 0 where
  pub revision : ℕ
  pub marks : List Mark

abbrev pub log_from : ℕ → List Mark → Log
log_from revision [] = record { revision = 0; marks = [] }
log_from revision (m ∷ ms) = record { revision = revision; marks = m ∷ ms }

unfoldable pub log_of : List ℕ → Log
log_of b = log_from (le32 b 0) (marks_of (finished_of b))

-- the log x is a beginning of the log y: its first commits, or nothing. As a log ends with the end of a commit, so does x.
abbrev pub Begins : Log → Log → Type 0
Begins x y = (k : ℕ) × (x ≡ log_from y.revision (take k y.marks))

abbrev pub following : List ℕ → (ℕ → ℕ → List ℕ) → Option What → Next → List ℕ
following seen go (Some w) next = seen
following seen go None ends = seen
following seen go None (goes a b) = go a b

abbrev pub reached_by : Card → List ℕ → (ℕ → ℕ → List ℕ) → Result Pair Fault → List ℕ
reached_by c seen go (Err f) = seen
reached_by c seen go (Ok p) = following seen go (pair_fault c seen p) (next_of p.state.tail)

-- The blocks of the pairs that the walk of the list reaches, from a pair on, until it ends or meets a fault; the pair's own
-- blocks and those before it are in `seen`.
unfoldable pub reached : ℕ → Card → List ℕ → ℕ → ℕ → List ℕ
reached zero c seen a b = seen
reached (suc n) c seen a b = reached_by c seen (λ a' b'. reached n c (a' ∷ b' ∷ seen) a' b') (read_pair c a b)

abbrev pub list_blocks : Card → List ℕ
list_blocks c = reached (length c.blocks) c (0 ∷ 1 ∷ []) 0 1

abbrev pub Erases : Write → Type 0
Erases (program b at unit) = ⊥
Erases (erase b) = Unit {0}

-- THE TEAR IS CLEAN: a write that was to make the card c into another left the card d, and its block is in no pair of the
-- list; or its log reads as before, or as it was to read; or, of an erase, as a beginning of what it was.
abbrev pub Clean : Card → Write → Card → Type 0
Clean c w d =
    (member (target w) (list_blocks c) ≡ false)
    ⊎ ((log_of (bytes d (target w)) ≡ log_of (bytes c (target w)))
    ⊎ ((log_of (bytes d (target w)) ≡ log_of (intended c w))
    ⊎ (Erases w × Begins (log_of (bytes d (target w))) (log_of (bytes c (target w))))))
