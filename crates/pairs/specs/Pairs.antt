-- What a reader of pairs holds, and what reading a pair from a device answers.
use Rattle.std.specs.Prelude.{◌≡◌, ℕ, cond, List, length, Some, None, Ok, Err, Option, Result, nat_le}
use Rattle.std.specs.Option.{option_map}
use Rattle.flash.specs.Card.{Card, bytes}
use Rattle.flash.specs.Device.{read_refusal}
use Rattle.metalog.specs.Log.{log_of}
use Rattle.metalog.specs.declared.reader.Survey.{Survey}
use Rattle.volume.specs.Fault.{fault_of}
use Rattle.volume.specs.State.{State, Folded}
use Rattle.volume.specs.Pair as volume
use Rattle.volume.specs.Pair.{Pair, fault, judged, read_pair}
use Rattle.volume.specs.declared.fault.Fault.{Fault}
use Rattle.volume.specs.declared.fault.What.{What}
use Rattle.volume.specs.declared.fault.What.TheVariants.{Size, NoCommit, NoNewer}
use Rattle.pairs.specs.declared.choice.Side.{Side}
use Rattle.pairs.specs.declared.choice.Side.TheVariants.{First, Second}
use Rattle.pairs.specs.declared.pair.PairReader.{PairReader}
use Rattle.pairs.specs.Tables.{state_of}

-- the block of a pair that counts, or what is wrong, as the code has it
abbrev pub side_for : volume.Choice → Result Side What
side_for volume.first = Ok First
side_for volume.second = Ok Second
side_for volume.no_commit = Err NoCommit
side_for volume.no_newer = Err NoNewer

-- THE STATE that a reader holds, over all the bytes of its buffer
abbrev pub state_in : PairReader → State
state_in s = state_of s.block s.table

-- why a whole block cannot be read
abbrev pub block_read : Card → ℕ → Option Fault
block_read c b = option_map fault_of (read_refusal c b 0 c.size)

-- a fault, if there is one, else the answer
abbrev pub unless : {T : Type 0} → Option Fault → Result T Fault → Result T Fault
unless (Some f) r = Err f
unless None r = r

-- THE PAIR of two blocks as a device gives it: blocks of more than 4,096 bytes are not read, a block that cannot be read is
-- a fault, and else the definition of a pair says what it is
unfoldable pub pair_at : Card → ℕ → ℕ → Result Pair Fault
pair_at c a b = cond (nat_le c.size 4096) (unless (block_read c a) (unless (block_read c b) (read_pair c a b))) (Err (fault Size 0 0))

-- a block that could be read, the bytes that were read, and its log in short
pub record Surveyed (c : Card) (b : ℕ) (s : Survey) (out : List ℕ) : Type 0 where
  pub readable : block_read c b ≡ None
  pub long : length (bytes c b) ≡ c.size
  pub content : out ≡ bytes c b
  pub revision : s.revision ≡ (log_of (bytes c b)).revision
  pub commits : s.commits ≡ length (log_of (bytes c b)).commits

-- what reading a whole block answers
abbrev pub Surveys : Card → ℕ → Result Survey Fault → List ℕ → Type 0
Surveys c b (Ok s) out = Surveyed c b s out
Surveys c b (Err f) out = block_read c b ≡ Some f

-- what the log of one block of a pair comes to, from its fold: the block, while the reader holds its state; or the fault
abbrev pub Judges : ℕ → ℕ → ℕ → Folded → Result ℕ Fault → PairReader → Type 0
Judges a b block folded (Ok n) s = judged a b block folded ≡ Ok (record { a = a; b = b; block = n; state = state_in s })
Judges a b block folded (Err f) s = judged a b block folded ≡ Err f

-- what reading a pair answers: the block whose log counts, while the reader holds its state; or the fault
abbrev pub PairReads : Card → ℕ → ℕ → Result ℕ Fault → PairReader → Type 0
PairReads c a b (Ok block) s = pair_at c a b ≡ Ok (record { a = a; b = b; block = block; state = state_in s })
PairReads c a b (Err f) s = pair_at c a b ≡ Err f
