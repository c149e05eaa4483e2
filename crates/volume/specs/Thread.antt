-- The list of pairs, from the root along the tails, and what its tails may name.
use Rattle.std.specs.Prelude.{ℕ, zero, suc, ◌-◌, Bool, false, cond, ◌&&◌, ◌||◌, List, [], ◌∷◌, length, Some, None, Ok, Err, Option, Result, ◌==◌, nat_le}
use Rattle.flash.specs.Card.{Card, is_good}
use Rattle.volume.specs.State.{State, Tail, size_of}
use Rattle.volume.specs.Pair.{Pair, fault, read_pair}
use Rattle.volume.specs.declared.fault.Fault.{Fault}
use Rattle.volume.specs.declared.fault.What.{What}
use Rattle.volume.specs.declared.fault.What.TheVariants.{TailBlock, TailTwice, TooFull, NoCommit}

-- a word that names no block, where both words of a tail are it
abbrev pub no_block : ℕ
no_block = 0xffffffff

-- whether a block is on the card and good: past the card there is no mark
abbrev pub usable : Card → ℕ → Bool
usable c b = is_good c b

abbrev pub member : ℕ → List ℕ → Bool
member b [] = false
member b (x ∷ xs) = b == x || member b xs

-- where the list goes on: nowhere, or at a pair of blocks
pub data Next : Type 0 where
  ends : Next
  goes : ℕ → ℕ → Next

abbrev pub next_of : Option Tail → Next
next_of None = ends
next_of (Some t) = cond (t.first == no_block && t.second == no_block) ends (goes t.first t.second)

-- whether one of two blocks is in the list already, or they are one
abbrev pub serves : List ℕ → ℕ → ℕ → Bool
serves seen a b = member a seen || (member b seen || a == b)

-- what is wrong with a pair of the list besides its log: where its tail leads, then how much it holds
abbrev pub tail_fault : Card → List ℕ → Next → Option What
tail_fault c seen ends = None
tail_fault c seen (goes a b) = cond (usable c a && usable c b) (cond (serves seen a b) (Some TailTwice) None) (Some TailBlock)

abbrev pub full_fault : Card → State → Option What
full_fault c s = cond (nat_le (size_of s.entries) (c.size - 40)) None (Some TooFull)

-- the first of two reasons
abbrev pub first_of : Option What → Option What → Option What
first_of None w = w
first_of (Some v) w = Some v

unfoldable pub pair_fault : Card → List ℕ → Pair → Option What
pair_fault c seen p = first_of (tail_fault c seen (next_of p.state.tail)) (full_fault c p.state)

-- one pair in front of the others
abbrev pub before : Pair → Result (List Pair) Fault → Result (List Pair) Fault
before p (Ok ps) = Ok (p ∷ ps)
before p (Err f) = Err f

-- the rest of the list behind a pair that is as it should be
abbrev pub behind : (ℕ → ℕ → Result (List Pair) Fault) → Next → Result (List Pair) Fault
behind walk ends = Ok []
behind walk (goes a b) = walk a b

abbrev pub accepted : Option What → Pair → Result (List Pair) Fault → Result (List Pair) Fault
accepted (Some w) p rest = Err (fault w p.block 0)
accepted None p rest = before p rest

-- what follows from a pair that was read
abbrev pub walked : Card → List ℕ → (ℕ → ℕ → Result (List Pair) Fault) → Result Pair Fault → Result (List Pair) Fault
walked c seen go (Err f) = Err f
walked c seen go (Ok p) = accepted (pair_fault c seen p) p (behind go (next_of p.state.tail))

-- The pairs from a pair of blocks on, with the blocks of those before it and its own in `seen`. Each pair has two new
-- blocks, so there are no more pairs than the card has blocks.
unfoldable pub walk : ℕ → Card → List ℕ → ℕ → ℕ → Result (List Pair) Fault
walk zero c seen a b = Err (fault NoCommit a 0)
walk (suc n) c seen a b = walked c seen (λ a' b'. walk n c (a' ∷ b' ∷ seen) a' b') (read_pair c a b)

-- THE LIST OF PAIRS
abbrev pub thread : Card → Result (List Pair) Fault
thread c = walk (length c.blocks) c (0 ∷ 1 ∷ []) 0 1
