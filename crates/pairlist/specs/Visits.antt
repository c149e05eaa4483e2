-- One pair of the list: what it is, or what is wrong with it, and where the list goes on.
use Rattle.std.specs.Prelude.{◌≡◌, ℕ, ◌<◌, Bool, true, false, List, length, Some, None, Ok, Err, Option, Result}
use Rattle.flash.specs.Card.{Card}
use Rattle.pairs.specs.Slots as slots
use Rattle.pairs.specs.declared.entry.Tail.{Tail}
use Rattle.volume.specs.Check.{is_size, hardly}
use Rattle.volume.specs.Global as global
use Rattle.volume.specs.Pair.{Pair, fault, read_pair}
use Rattle.volume.specs.State.{State}
use Rattle.volume.specs.Thread.{Next, ends, goes, next_of, tail_fault, full_fault, first_of, pair_fault}
use Rattle.volume.specs.declared.fault.Fault.{Fault}
use Rattle.volume.specs.declared.fault.What.{What}
use Rattle.pairlist.specs.declared.visit.Visit.{Visit}

-- a card that is not dark and of a right size, and two blocks of it
pub record Fit (c : Card) (a b : ℕ) : Type 0 where
  pub bright : c.dark ≡ false
  pub sized : is_size c.size (length c.blocks) ≡ true
  pub first : a < length c.blocks
  pub second : b < length c.blocks

-- what is wrong with a state where it stands: pair_fault, by the state alone
abbrev pub fault_in : Card → List ℕ → State → Option What
fault_in c seen s = first_of (tail_fault c seen (next_of s.tail)) (full_fault c s)

-- a pair that was read, unless something is wrong with it where it stands
abbrev pub allowed : Option What → Pair → Result Pair Fault
allowed None p = Ok p
allowed (Some w) p = Err (fault w p.block 0)

abbrev pub visited_by : Card → List ℕ → Result Pair Fault → Result Pair Fault
visited_by c seen (Err f) = Err f
visited_by c seen (Ok p) = allowed (pair_fault c seen p) p

-- the pair of two blocks as one of the list, where some blocks serve already
abbrev pub visited : Card → List ℕ → ℕ → ℕ → Result Pair Fault
visited c seen a b = visited_by c seen (read_pair c a b)

-- it goes on, unless something is wrong
abbrev pub ok_unless : Option What → Result (Unit {0}) What
ok_unless None = Ok tt
ok_unless (Some w) = Err w

-- where the list goes on, as it is kept
abbrev pub next_for : Option Tail → Next
next_for None = ends
next_for (Some t) = goes t.pair.first t.pair.second

-- whether it goes on in the same directory
abbrev pub hard_for : Option Tail → Bool
hard_for None = false
hard_for (Some t) = t.hard

-- what a visit keeps of a pair
pub record VisitAs (v : Visit) (p : Pair) : Type 0 where
  pub block : v.block ≡ p.block
  pub count : v.count ≡ length p.state.entries
  pub hard : hard_for v.next ≡ hardly p.state.tail
  pub next : next_for v.next ≡ next_of p.state.tail
  pub moves : slots.moves_of v.moves ≡ global.moves_of p.state.moves

-- the answer of a visit
abbrev pub Visits : Card → List ℕ → ℕ → ℕ → Result Visit Fault → Type 0
Visits c seen a b (Ok v) = (p : Pair) × ((visited c seen a b ≡ Ok p) × VisitAs v p)
Visits c seen a b (Err f) = visited c seen a b ≡ Err f
