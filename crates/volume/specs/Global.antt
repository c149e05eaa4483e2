-- The superblock, and the global state: what the move data of all pairs say together.
use Rattle.std.specs.Prelude.{ℕ, suc, ◌/◌, ◌%◌, ◌^◌, Bool, true, false, cond, ◌&&◌, ◌||◌, List, [], ◌∷◌, ◌++◌, length, Some, None, Option, ◌==◌, bit_xor, nat_lt}
use Rattle.flash.specs.Card.{Card}
use Rattle.metalog.specs.Tag.{le4}
use Rattle.volume.specs.State.{file, directory, superblock, Name, Struct, pair, inline, skip, Slot, Moves}
use Rattle.volume.specs.Pair.{Pair}

-- ---- lists of bytes

abbrev pub same : List ℕ → List ℕ → Bool
same [] [] = true
same [] (y ∷ ys) = false
same (x ∷ xs) [] = false
same (x ∷ xs) (y ∷ ys) = x == y && same xs ys

-- ---- the superblock

-- version 2.0, block size, block count, longest name, largest file, largest attribute
abbrev pub superblock_words : ℕ → ℕ → List ℕ
superblock_words size count = le4 0x00020000 ++ (le4 size ++ (le4 count ++ (le4 64 ++ (le4 1048576 ++ le4 1022))))

-- "littlefs"
abbrev pub superblock_name : List ℕ
superblock_name = 108 ∷ 105 ∷ 116 ∷ 116 ∷ 108 ∷ 101 ∷ 102 ∷ 115 ∷ []

abbrev pub is_superblock_name : Option Name → Bool
is_superblock_name None = false
is_superblock_name (Some n) = elim n.kind [ file ↦ false | directory ↦ false | superblock ↦ same n.bytes superblock_name ]

abbrev pub is_inline : List ℕ → Option Struct → Bool
is_inline xs None = false
is_inline xs (Some (pair a b)) = false
is_inline xs (Some (inline ys)) = same ys xs
is_inline xs (Some (skip a n)) = false

-- whether the first entry of the root is the superblock of this card
unfoldable pub is_root : Card → List Slot → Bool
is_root c [] = false
is_root c (x ∷ xs) = is_superblock_name x.name && is_inline (superblock_words c.size (length c.blocks)) x.content

-- ---- the global state

abbrev pub no_moves : Moves
no_moves = record { word = 0; first = 0; second = 0 }

abbrev pub moves_of : Option Moves → Moves
moves_of None = no_moves
moves_of (Some m) = m

-- word by word
abbrev pub mixed : Moves → Moves → Moves
mixed m n = record { word = bit_xor m.word n.word; first = bit_xor m.first n.first; second = bit_xor m.second n.second }

abbrev pub global_of : List Pair → Moves
global_of [] = no_moves
global_of (p ∷ ps) = mixed (moves_of p.state.moves) (global_of ps)

-- whether the list may have directories without an entry
abbrev pub sync_of : Moves → Bool
sync_of g = g.word / 2 ^ 31 % 2 == 1

abbrev pub type_bits : Moves → ℕ
type_bits g = g.word / 2 ^ 20 % 2 ^ 11

abbrev pub move_id : Moves → ℕ
move_id g = g.word / 2 ^ 10 % 2 ^ 10

-- whether two pairs of blocks are one, in either order
abbrev pub same_blocks : ℕ → ℕ → ℕ → ℕ → Bool
same_blocks a b x y = (a == x && b == y) || (a == y && b == x)

-- an entry of the list: the place of its pair, counted from 0, and its id
pub record Spot : Type 0 where
  pub pair : ℕ
  pub id : ℕ

abbrev pub entry_in : ℕ → ℕ → List Slot → Option Spot
entry_in k i es = cond (nat_lt i (length es)) (Some (record { pair = k; id = i })) None

-- the entry with an id in the pair of two blocks, from the k-th pair of the list on
abbrev pub find_entry : ℕ → List Pair → ℕ → ℕ → ℕ → Option Spot
find_entry k [] x y i = None
find_entry k (p ∷ ps) x y i = cond (same_blocks p.a p.b x y) (entry_in k i p.state.entries) (find_entry (suc k) ps x y i)

abbrev pub is_spot : Spot → ℕ → ℕ → Bool
is_spot s k i = s.pair == k && s.id == i

-- what the global state hides: nothing, an entry, or one that must not be hidden or is not there; or its type bits are wrong
pub data Hiding : Type 0 where
  shows : Hiding
  hides : Spot → Hiding
  misses : Hiding
  wrong_bits : Hiding

abbrev pub hidden : Option Spot → Hiding
hidden None = misses
hidden (Some s) = cond (is_spot s 0 0) misses (hides s)

unfoldable pub hiding_of : List Pair → Moves → Hiding
hiding_of ps g =
    cond (type_bits g == 0) shows (cond (type_bits g == 0x4ff) (hidden (find_entry 0 ps g.first g.second (move_id g))) wrong_bits)
