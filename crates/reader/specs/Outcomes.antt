-- What one entry of a directory comes to, apart from what lies below it.
use Rattle.std.specs.Prelude.{ℕ, Bool, cond, ◌||◌, List, ◌∷◌, ◌++◌, Some, None, Ok, Err, Option, ◌==◌}
use Rattle.flash.specs.Card.{Card}
use Rattle.volume.specs.Check.{Dir, find_dir, Met, Scan, then, Fit, file_inline, file_skip, dir_pair, extra_superblock, unfit, fit_of, content_fault, name_fault}
use Rattle.volume.specs.Files.{file_blocks, file_bytes}
use Rattle.volume.specs.Pair.{fault}
use Rattle.volume.specs.State.{Slot}
use Rattle.volume.specs.Thread.{member}
use Rattle.volume.specs.Tree.{Name, Node, file, directory, Entries}
use Rattle.volume.specs.declared.fault.What.{What}
use Rattle.volume.specs.declared.fault.What.TheVariants.{Directory, Entry, SuperblockElsewhere}

-- an entry is faulty; or it is a file, with what was met then; or it leads to a directory, by its number
pub data Outcome : Type 0 where
  faulty : What → Outcome
  ends : Name → List ℕ → Met → Outcome
  leads : Name → ℕ → Met → Outcome

-- unless something is wrong
abbrev pub or_faulty : Option What → Outcome → Outcome
or_faulty (Some w) o = faulty w
or_faulty None o = o

-- the directory that an entry names: one of the list, not the root, named by no entry before
abbrev pub leads_to : Name → Option ℕ → Met → Outcome
leads_to n None met = faulty Directory
leads_to n (Some k) met = cond (k == 0 || member k met.dirs) (faulty Directory) (leads n k (record { seen = met.seen; dirs = k ∷ met.dirs }))

abbrev pub outcome_in : Card → List Dir → Bool → Option Name → Fit → Met → Outcome
outcome_in c ds deep last (file_inline n xs) met = or_faulty (name_fault deep last n) (ends n xs met)
outcome_in c ds deep last (file_skip n h size) met =
    or_faulty (name_fault deep last n) (ends n (file_bytes c h size) (record { seen = file_blocks c h size ++ met.seen; dirs = met.dirs }))
outcome_in c ds deep last (dir_pair n a b) met = or_faulty (name_fault deep last n) (leads_to n (find_dir 0 ds a b) met)
outcome_in c ds deep last extra_superblock met = faulty SuperblockElsewhere
outcome_in c ds deep last unfit met = faulty Entry

-- what an entry comes to, behind a name, where something was met already
unfoldable pub outcome_of : Card → List Dir → Bool → Option Name → Slot → Met → Outcome
outcome_of c ds deep last x met = or_faulty (content_fault c met.seen x.content) (outcome_in c ds deep last (fit_of x) met)

-- with what lies below it
abbrev pub played : (ℕ → Met → Scan Entries) → ℕ → Outcome → Scan (Name × Node)
played enter block (faulty w) = Err (fault w block 0)
played enter block (ends n bytes met) = Ok ((n, file bytes), met)
played enter block (leads n k met) = then (enter k met) (λ es met. Ok ((n, directory es), met))
