-- What is written is read again, whole or not at all, wherever the writing stopped.
use Rattle.std.specs.Prelude.{◌≡◌, ℕ, ◌+◌, ◌-◌, ◌/◌, ◌^◌, ◌<◌, ◌≤◌, ◌⊎◌, List, [], ◌∷◌, ◌++◌, length, take, drop, replicate}
use Rattle.std.specs.List.{AllByRecursion}
use Rattle.metalog.specs.Tag.{le4}
use Rattle.metalog.specs.Log.{Entry, Log, log_of, empty_log, first_prior, end_of}
use Rattle.metalog.specs.Commit.{Piece, Sound, encode, entries}
use Rattle.metalog.specs.Known.{KnownPoints}
use Rattle.metalog.specs.Revision.{RevisionLaws}

-- a block that begins with some bytes, and is erased behind them
abbrev pub erased_behind : List ℕ → ℕ → List ℕ
erased_behind xs n = xs ++ replicate n 0xff

-- the bytes of a block's revision word and first commit
abbrev pub first_bytes : ℕ → List Piece → List ℕ
first_bytes revision ps = le4 revision ++ encode (le4 revision) first_prior ps

-- A block that is a revision, one commit and 0xff reads as that commit alone.
abbrev pub FirstReads : Type 0
FirstReads = (revision : ℕ) (ps : List Piece) (n : ℕ) → revision < 2 ^ 32 → AllByRecursion Sound ps
    → log_of (erased_behind (first_bytes revision ps) n) ≡ record { revision = revision; commits = entries 4 ps ∷ [] }

-- The same, of which only the first m bytes were written: it reads as an erased block does, or as that commit alone.
abbrev pub FirstTorn : Type 0
FirstTorn = (revision : ℕ) (ps : List Piece) (m n : ℕ) → revision < 2 ^ 32 → AllByRecursion Sound ps
    → log_of (erased_behind (take m (first_bytes revision ps)) n) ≡ empty_log ⊎ log_of (erased_behind (take m (first_bytes revision ps)) n) ≡ record { revision = revision; commits = entries 4 ps ∷ [] }

-- the log with one commit more
abbrev pub extended : Log → List Entry → Log
extended l es = record { revision = l.revision; commits = l.commits ++ es ∷ [] }

-- a block b of finished commits whose last one ends at `offset`, with only 0xff behind it
pub record Appendable (b : List ℕ) : Type 0 where
  pub some : 0 < length (log_of b).commits
  pub erased : drop (end_of b).offset b ≡ replicate (length b - (end_of b).offset) 0xff

-- the block with bytes put behind its last finished commit, and 0xff behind them
abbrev pub appended : List ℕ → List ℕ → List ℕ
appended b xs = erased_behind (take (end_of b).offset b ++ xs) (length b - (end_of b).offset - length xs)

-- the bytes of a commit behind the log of b
abbrev pub next_bytes : List ℕ → List Piece → List ℕ
next_bytes b ps = encode [] (end_of b).prior ps

abbrev pub next_log : List ℕ → List Piece → Log
next_log b ps = extended (log_of b) (entries (end_of b).offset ps)

-- A commit written behind a log with only 0xff behind it reads as that log extended by exactly it.
abbrev pub AppendReads : Type 0
AppendReads = (b : List ℕ) (ps : List Piece) → Appendable b → AllByRecursion Sound ps → (end_of b).offset + length (next_bytes b ps) ≤ length b
    → log_of (appended b (next_bytes b ps)) ≡ next_log b ps

-- The same, of which only the first m bytes were written, any number: the log reads as before or as after.
abbrev pub AppendTorn : Type 0
AppendTorn = (b : List ℕ) (ps : List Piece) (m : ℕ) → Appendable b → AllByRecursion Sound ps → (end_of b).offset + length (next_bytes b ps) ≤ length b
    → log_of (appended b (take m (next_bytes b ps))) ≡ log_of b ⊎ log_of (appended b (take m (next_bytes b ps))) ≡ next_log b ps

-- A block whose first half is 0xff, as an erase that stopped half way leaves it, has no finished commit.
abbrev pub HalfErased : Type 0
HalfErased = (b : List ℕ) → 24 ≤ length b → take (length b / 2) b ≡ replicate (length b / 2) 0xff → log_of b ≡ empty_log

-- All laws of the log of one block.
pub record LogLaws : Type 0 where
  pub first_reads : FirstReads
  pub first_torn : FirstTorn
  pub append_reads : AppendReads
  pub append_torn : AppendTorn
  pub half_erased : HalfErased
  pub revisions : RevisionLaws
  pub known : KnownPoints
