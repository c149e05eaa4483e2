-- The walk of the whole list: what it answers, and what it leaves.
use Rattle.std.specs.Prelude.{◌≡◌, ℕ, cond, List, [], ◌∷◌, length, Ok, Err, Result}
use Rattle.blockset.specs.Holds.{Inserted}
use Rattle.blockset.specs.declared.BlockSet.{BlockSet}
use Rattle.flash.specs.Card.{Card, is_good}
use Rattle.pairs.specs.Slots as slots
use Rattle.pairs.specs.declared.entry.Blocks.{Blocks}
use Rattle.pairs.specs.declared.entry.Moves.{Moves}
use Rattle.volume.specs.Check.{is_size, pair_blocks}
use Rattle.volume.specs.Global.{global_of}
use Rattle.volume.specs.Listing.{Readable}
use Rattle.volume.specs.Marks.{Marks}
use Rattle.volume.specs.Pair.{Pair, fault}
use Rattle.volume.specs.Thread.{thread}
use Rattle.volume.specs.declared.fault.Fault.{Fault}
use Rattle.volume.specs.declared.fault.What.TheVariants.{Dark, Size, RootBlock}
use Rattle.pairlist.specs.declared.rows.PairList.{PairList}
use Rattle.pairlist.specs.Desks.{Listed}

-- THE LIST OF A CARD, behind the tests that come first: dark, of no size that a card has, a root block that is not good
unfoldable pub list_of : Card → Result (List Pair) Fault
list_of c =
    cond c.dark (Err (fault Dark 0 0))
    (cond (is_size c.size (length c.blocks))
    (cond (is_good c 0) (cond (is_good c 1) (thread c) (Err (fault RootBlock 1 0))) (Err (fault RootBlock 0 0)))
    (Err (fault Size 0 0)))

-- the answer of the tests that come first
abbrev pub Enters : {T : Type 0} → Card → Result T Fault → Type 0
Enters c (Ok _) = Readable c
Enters c (Err f) = list_of c ≡ Err f

-- the blocks of the root
abbrev pub root : List ℕ
root = 0 ∷ 1 ∷ []

-- a set with both blocks of a pair more
abbrev pub Marked : BlockSet → Blocks → BlockSet → Type 0
Marked s p u = (t : BlockSet) × (Inserted s p.first t × Inserted t p.second u)

-- a walk is about to begin: no pair is listed, and the blocks of the root serve
pub record Ready (c : Card) (l : PairList) (s : BlockSet) : Type 0 where
  pub card : Readable c
  pub none : l.rows.items ≡ []
  pub marks : Marks s root

-- what a walk leaves: the rows of the pairs, the global state, and the blocks of the pairs in the set
pub record Walked (c : Card) (m : Moves) (l : PairList) (s : BlockSet) : Type 0 where
  pub pairs : List Pair
  pub listed : Listed c pairs l
  pub global : slots.moves_of m ≡ global_of pairs
  pub used : Marks s (pair_blocks pairs)

-- the answer of a walk
abbrev pub Walks : Card → Result Moves Fault → PairList → BlockSet → Type 0
Walks c (Ok m) l s = Walked c m l s
Walks c (Err f) l s = list_of c ≡ Err f
