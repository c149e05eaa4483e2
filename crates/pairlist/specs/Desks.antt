-- A list of pairs as it is kept of a card, and the pair of it that lies on the desk.
use Rattle.std.specs.Prelude.{◌≡◌, ℕ, ◌≤◌, List, length, Some, None, Ok, Err, Option, Result}
use Rattle.std.specs.List.{slice_get}
use Rattle.flash.specs.Card.{Card}
use Rattle.pairs.specs.Pairs.{state_in}
use Rattle.pairs.specs.declared.pair.PairReader.{PairReader}
use Rattle.volume.specs.Listing.{Readable}
use Rattle.volume.specs.Pair.{Pair}
use Rattle.volume.specs.Rows.{rows_of}
use Rattle.volume.specs.Thread.{thread}
use Rattle.volume.specs.declared.fault.Fault.{Fault}
use Rattle.pairlist.specs.Rows.{rows_in}
use Rattle.pairlist.specs.declared.rows.PairList.{PairList}
use Rattle.pairlist.specs.declared.desk.Desk.{Desk}

-- the rows of a list are those of the pairs of a card; each pair has two blocks of its own, so there are 2,048 at most
pub record Listed (c : Card) (ps : List Pair) (l : PairList) : Type 0 where
  pub card : Readable c
  pub list : thread c ≡ Ok ps
  pub rows : rows_in l ≡ rows_of ps
  pub few : length ps ≤ 2048

-- a reader holds the state of a pair of the list, where it holds one
abbrev pub Lies : List Pair → Option ℕ → PairReader → Type 0
Lies ps None s = Unit {0}
Lies ps (Some k) s = (p : Pair) × ((slice_get ps k ≡ Some p) × (state_in s ≡ p.state))

-- what is on the desk is a pair of the list
abbrev pub OnDesk : List Pair → Desk → Type 0
OnDesk ps d = Lies ps d.place d.pairs

-- the k-th pair is on the desk
pub record Loaded (ps : List Pair) (k : ℕ) (p : Pair) (d : Desk) : Type 0 where
  pub place : d.place ≡ Some k
  pub there : slice_get ps k ≡ Some p
  pub state : state_in d.pairs ≡ p.state

-- the answer to a load of the k-th pair, where there is one: it is on the desk
abbrev pub Loads : {T : Type 0} → List Pair → ℕ → Pair → Result T Fault → Desk → Type 0
Loads ps k p (Ok _) d = Loaded ps k p d
Loads ps k p (Err f) d = ⊥
