-- What the parts of a check and of a read answer.
use Rattle.std.specs.Prelude.{◌≡◌, ℕ, suc, ◌+◌, ◌-◌, ◌<◌, ◌≤◌, true, false, cond, ◌&&◌, List, ◌++◌, length, take, Some, None, Ok, Err, Option, Result, nat_le, slice_index, slice_index_or}
use Rattle.flash.specs.Card.{Card, bytes}
use Rattle.flash.specs.Write.{part}
use Rattle.metalog.specs.Tag.{le32}
use Rattle.skiplist.specs.Layout.{pointers_of}
use Rattle.skiplist.specs.Places.{file_limit, block_limit, block_of}
use Rattle.volume.specs.Thread.{usable}
use Rattle.volume.specs.Files.{chain, chain_fault, right_words, all_right, content_from}
use Rattle.volume.specs.declared.fault.What.{What}
use Rattle.volume.specs.declared.fault.What.TheVariants.{EntryBlock, BlockTwice, FileWord}
use Rattle.blockset.specs.Holds.{holds, Inserted}
use Rattle.blockset.specs.declared.BlockSet.{BlockSet}
use Rattle.volume.specs.Marks.{Marks}

-- the bytes of block b up to an offset can be read
pub record Within (c : Card) (b end : ℕ) : Type 0 where
  pub powered : c.dark ≡ false
  pub block : b < length c.blocks
  pub inside : end ≤ c.size

-- Bytes of block b, from an offset on, into the whole of a buffer that held `old`; none, since the card does not let them be
-- read, and the buffer holds what it held.
abbrev pub PartRead : {T : Type 0} → Card → ℕ → ℕ → List ℕ → Result T What → List ℕ → Type 0
PartRead c b at old (Ok _) out = out ≡ part (bytes c b) at (length old)
PartRead c b at old (Err _) out = (Within c b (at + length old) → ⊥) × (out ≡ old)

-- the word at an offset of block b; none, since the card does not let it be read
abbrev pub WordAt : Card → ℕ → ℕ → Result ℕ What → Type 0
WordAt c b at (Ok w) = w ≡ le32 (bytes c b) at
WordAt c b at (Err _) = Within c b (at + 4) → ⊥

-- the number of the last block of a file; none, since no file has so many bytes
abbrev pub LastBlock : ℕ → ℕ → Option ℕ → Type 0
LastBlock s bytes (Some n) = ((nat_le 1 bytes && nat_le bytes file_limit) ≡ true) × (n ≡ block_of s (bytes - 1)) × (n < block_limit)
LastBlock s bytes None = (nat_le 1 bytes && nat_le bytes file_limit) ≡ false

-- A block was put into a set; or what is wrong with it: it is not good, or serves already.
abbrev pub Marked : {T : Type 0} → Card → BlockSet → ℕ → Result T What → BlockSet → Type 0
Marked c s b (Ok _) t = (usable c b ≡ true) × (holds s b ≡ false) × Inserted s b t
Marked c s b (Err w) t = cond (usable c b) (cond (holds s b) (Some BlockTwice) None) (Some EntryBlock) ≡ Some w

-- The blocks of a file were put into a set and stored; or what is wrong with one of them.
abbrev pub Chained : {T : Type 0} → Card → List ℕ → ℕ → ℕ → Result T What → BlockSet → List ℕ → Type 0
Chained c seen head n (Ok _) s ts = (chain_fault n c seen head ≡ None) × Marks s (chain n c head ++ seen) × (take (suc n) ts ≡ chain n c head)
Chained c seen head n (Err w) s ts = chain_fault n c seen head ≡ Some w

-- an answer that tells what is wrong, if anything is
abbrev pub Told : {T : Type 0} → Option What → Result T What → Type 0
Told o (Ok _) = o ≡ None
Told o (Err w) = o ≡ Some w

-- what is wrong with the words of one block of a file
abbrev pub block_fault : Card → List ℕ → ℕ → Option What
block_fault c bs i = cond (right_words c bs i (pointers_of i)) None (Some FileWord)

-- every block of the list is good
abbrev pub AllUsable : Card → List ℕ → Type 0
AllUsable c bs = (i : ℕ) → i < length bs → usable c (slice_index bs i) ≡ true

-- The blocks bs are those of a file whose last block is `head`, of the number `last`: they are good, and their words are right.
pub record FileAt (c : Card) (bs : List ℕ) (head last : ℕ) : Type 0 where
  pub good : AllUsable c bs
  pub right : all_right c bs (length bs) ≡ true
  pub many : length bs ≡ suc last
  pub ends : slice_index_or bs last 0 ≡ head

-- all of a buffer that held `old` was filled with content of the blocks bs, from a place on
pub record Copied (c : Card) (bs : List ℕ) (place : ℕ) (old : List ℕ) (r : Result (Unit {0}) What) (out : List ℕ) : Type 0 where
  pub answer : r ≡ Ok tt
  pub holds : out ≡ part (content_from c 0 bs) place (length old)
