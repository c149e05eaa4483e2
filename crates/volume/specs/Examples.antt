-- Cards that are small enough for the checker to compute what they hold.
use Rattle.std.specs.Prelude.{◌≡◌, ℕ, zero, suc, ◌-◌, true, false, List, [], ◌∷◌, ◌++◌, length, replicate, Some, None, Ok, Err, Option, Result}
use Rattle.flash.specs.Card.{Card}
use Rattle.metalog.specs.Commit.{Piece}
use Rattle.metalog.specs.Laws.{first_bytes}
use Rattle.metalog.specs.Log.{ended}
use Rattle.volume.specs.State.{file, superblock, Slot, inline, start, wrong, fold_items}
use Rattle.volume.specs.Paths.{path_of, blocked, find}
use Rattle.volume.specs.Global.{superblock_name, superblock_words, shows}
use Rattle.volume.specs.Pair.{Pair, fault}
use Rattle.volume.specs.Tree as tree
use Rattle.volume.specs.Tree.{Node, directory, none, entry}
use Rattle.metalog.specs.Tag.{le4}
use Rattle.volume.specs.Check.{check, Dir, Reading}
use Rattle.volume.specs.declared.fault.Fault.{Fault}
use Rattle.volume.specs.declared.fault.What.TheVariants.{NoCommit, NoNewer, NameOrder, Tag, TailBlock, TailTwice, Hidden, Orphan}

-- a block of 512 bytes that begins with some bytes, and is erased behind them
abbrev pub block : List ℕ → List ℕ
block xs = xs ++ replicate (512 - length xs) 0xff

-- a card of eight such blocks, all good
abbrev pub card : List (List ℕ) → Card
card blocks = record { size = 512; blocks = blocks; good = replicate 8 true; dark = false }

abbrev pub superblock_pieces : List Piece
superblock_pieces = record { kind = 0x0ff; id = 0; bytes = superblock_name } ∷ record { kind = 0x201; id = 0; bytes = superblock_words 512 8 } ∷ []

-- an empty card: the superblock in block 0, everything else erased
abbrev pub empty_card : Card
empty_card = card (block (first_bytes 1 superblock_pieces) ∷ replicate 7 (block []))

abbrev pub root_slot : Slot
root_slot = record { name = Some (record { kind = superblock; bytes = superblock_name }); content = Some (inline (superblock_words 512 8)) }

abbrev pub root_pair : Pair
root_pair = record { a = 0; b = 1; block = 0; state = record { entries = root_slot ∷ []; tail = None; moves = None } }

-- a file with a name and inline bytes, inserted at an id
abbrev pub file_pieces : ℕ → List ℕ → List ℕ → List Piece
file_pieces i name xs = record { kind = 0x401; id = i; bytes = [] } ∷ record { kind = 0x001; id = i; bytes = name } ∷ record { kind = 0x201; id = i; bytes = xs } ∷ []

-- a card whose root pair has one commit with the superblock and other entries
abbrev pub card_with : List Piece → Card
card_with ps = card (block (first_bytes 1 (superblock_pieces ++ ps)) ∷ replicate 7 (block []))

abbrev pub file_slot : List ℕ → List ℕ → Slot
file_slot name xs = record { name = Some (record { kind = file; bytes = name }); content = Some (inline xs) }

-- a card whose first blocks hold one commit each, with the revision given, and whose other blocks are erased
abbrev pub card_of : List (ℕ × List Piece) → Card
card_of logs = card (blocks_of logs ++ replicate (8 - length logs) (block []))
  where
    blocks_of : List (ℕ × List Piece) → List (List ℕ)
    blocks_of [] = []
    blocks_of (l ∷ ls) = block (first_bytes l.0 l.1) ∷ blocks_of ls

-- a tail to the pair of blocks 2 and 3
abbrev pub tail_piece : ℕ → Piece
tail_piece kind = record { kind = kind; id = 0x3ff; bytes = le4 2 ++ le4 3 }

-- the tree that a card holds, and the first blocks of its orphans
abbrev pub shown : Result Reading Fault → Option Node
shown (Ok r) = Some r.tree
shown (Err f) = None

abbrev pub first_blocks : List Dir → List ℕ
first_blocks [] = []
first_blocks (d ∷ ds) = d.a ∷ first_blocks ds

abbrev pub orphans_of : Result Reading Fault → List ℕ
orphans_of (Ok r) = first_blocks r.orphans
orphans_of (Err f) = []

-- "/a", so many times
abbrev pub steps : ℕ → List ℕ
steps zero = []
steps (suc n) = 47 ∷ 97 ∷ steps n

pub record Examples : Type 0 where
  -- an empty card holds the empty tree, and uses the root pair
  pub empty : check empty_card ≡ Ok (record { tree = directory none; pairs = root_pair ∷ []; sync = false; hiding = shows; orphans = []; used = 0 ∷ 1 ∷ [] })
  -- the file "vega" with the bytes "2.5"
  pub vega : check (card_with (file_pieces 1 (118 ∷ 101 ∷ 103 ∷ 97 ∷ []) (50 ∷ 46 ∷ 53 ∷ [])))
      ≡ Ok (record {
        tree = directory (entry (118 ∷ 101 ∷ 103 ∷ 97 ∷ []) (tree.file (50 ∷ 46 ∷ 53 ∷ [])) none);
        pairs = record { a = 0; b = 1; block = 0; state = record { entries = root_slot ∷ file_slot (118 ∷ 101 ∷ 103 ∷ 97 ∷ []) (50 ∷ 46 ∷ 53 ∷ []) ∷ []; tail = None; moves = None } } ∷ [];
        sync = false;
        hiding = shows;
        orphans = [];
        used = 0 ∷ 1 ∷ [];
      })
  -- an erased card has no root
  pub erased : check (card (replicate 8 (block []))) ≡ Err (fault NoCommit 0 0)
  -- "b" before "a"
  pub unordered : check (card_with (file_pieces 1 (98 ∷ []) [] ++ file_pieces 2 (97 ∷ []) [])) ≡ Err (fault NameOrder 0 0)
  -- a tag of an unknown type, at the offset behind the superblock's two
  pub unknown : check (card_with (record { kind = 0x123; id = 1; bytes = [] } ∷ [])) ≡ Err (fault Tag 0 0x2c)
  -- a tail that names block 8 of 8
  pub outside : check (card_with (record { kind = 0x600; id = 0x3ff; bytes = le4 2 ++ le4 8 } ∷ [])) ≡ Err (fault TailBlock 0 0)
  -- a tail that leads back to the root
  pub back : check (card_with (record { kind = 0x600; id = 0x3ff; bytes = le4 2 ++ le4 0 } ∷ [])) ≡ Err (fault TailTwice 0 0)
  -- a hidden entry that is the superblock
  pub hidden : check (card_with (record { kind = 0x7ff; id = 0x3ff; bytes = le4 0x4ff00000 ++ (le4 1 ++ le4 0) } ∷ [])) ≡ Err (fault Hidden 1 0)
  -- "c" at id 1, and then "a" inserted before it
  pub moved_up : shown (check (card_with (file_pieces 1 (99 ∷ []) [] ++ file_pieces 1 (97 ∷ []) []))) ≡ Some (directory (entry (97 ∷ []) (tree.file []) (entry (99 ∷ []) (tree.file []) none)))
  -- a hard tail to a pair with the file "a": it is in the root
  pub joined : shown (check (card_of ((2, superblock_pieces ++ tail_piece 0x601 ∷ []) ∷ (1, []) ∷ (1, file_pieces 0 (97 ∷ []) []) ∷ []))) ≡ Some (directory (entry (97 ∷ []) (tree.file []) none))
  -- a soft tail to it: a directory that no entry names
  pub orphan : check (card_of ((2, superblock_pieces ++ tail_piece 0x600 ∷ []) ∷ (1, []) ∷ (1, file_pieces 0 (97 ∷ []) []) ∷ [])) ≡ Err (fault Orphan 2 0)
  -- which may be while the sync bit is set
  pub orphan_told : orphans_of (check (card_of ((2, superblock_pieces ++ tail_piece 0x600 ∷ record { kind = 0x7ff; id = 0x3ff; bytes = le4 0x80000000 ++ (le4 0 ++ le4 0) } ∷ []) ∷ (1, []) ∷ (1, file_pieces 0 (97 ∷ []) []) ∷ []))) ≡ 2 ∷ []
  -- of two logs the newer counts, in either block
  pub newer_first : shown (check (card_of ((2, superblock_pieces) ∷ (1, superblock_pieces ++ file_pieces 1 (97 ∷ []) []) ∷ []))) ≡ Some (directory none)
  pub newer_second : shown (check (card_of ((0xffffffff, superblock_pieces ++ file_pieces 1 (97 ∷ []) []) ∷ (0, superblock_pieces) ∷ []))) ≡ Some (directory none)
  -- and of two of one revision neither
  pub no_newer : check (card_of ((1, superblock_pieces) ∷ (1, superblock_pieces) ∷ [])) ≡ Err (fault NoNewer 0 0)
  -- an ending tag, at offset 4, with the id 0
  pub ending_id : fold_items start (ended (record { offset = 16; prior = 0; tag = 4; id = 0 }) ∷ []) ≡ wrong 4
  -- eight names are a path, nine are none
  pub eight : path_of (steps 8) ≡ Some (replicate 8 (97 ∷ []))
  pub nine : path_of (steps 9) ≡ None
  -- "a" and "b", of which "a" is removed
  pub moved_down : shown (check (card_with (file_pieces 1 (97 ∷ []) [] ++ (file_pieces 2 (98 ∷ []) [] ++ record { kind = 0x4ff; id = 1; bytes = [] } ∷ [])))) ≡ Some (directory (entry (98 ∷ []) (tree.file []) none))
  -- "a", hidden by the move data, which name the root's blocks the other way round
  pub not_shown : shown (check (card_with (file_pieces 1 (97 ∷ []) [] ++ record { kind = 0x7ff; id = 0x3ff; bytes = le4 0x4ff00400 ++ (le4 1 ++ le4 0) } ∷ []))) ≡ Some (directory none)
  -- a file "a" stands on the way to "/a/b"
  pub on_the_way : find ((97 ∷ []) ∷ (98 ∷ []) ∷ []) (directory (entry (97 ∷ []) (tree.file []) none)) ≡ blocked
