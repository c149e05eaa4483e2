-- A tree as the items of a card's directories: which entry of the tree an item is, and which item has a name.
use Rattle.std.specs.Prelude.{◌≡◌, ℕ, Bool, true, false, cond, List, [], ◌∷◌, length, Some, None, Ok, Option}
use Rattle.flash.specs.Card.{Card, is_good}
use Rattle.volume.specs.Pair.{Pair}
use Rattle.volume.specs.Thread.{thread}
use Rattle.volume.specs.Global.{is_root, global_of, sync_of, Hiding, shows, hides, misses, wrong_bits, hiding_of}
use Rattle.volume.specs.Files.{file_bytes, file_fault}
use Rattle.volume.specs.Tree.{Name, named, Node, file, directory, Entries, none, entry}
use Rattle.volume.specs.Check.{Item, Dir, find_dir, items_at, Fit, file_inline, file_skip, dir_pair, extra_superblock, unfit, fit_of, Met, scan_dir, orphans_from, pair_blocks, is_size, Reading}
use Rattle.volume.specs.Ways.{dirs_of}

-- ---- what an item is in the tree

-- a file with its bytes in the log
pub record InlineAs (k : Name) (xs : List ℕ) (n : Name) (ys : List ℕ) : Type 0 where
  pub name : n ≡ k
  pub bytes : ys ≡ xs

-- a file with blocks of its own, of which nothing is wrong where some blocks serve already
pub record SkipAs (c : Card) (k : Name) (head size : ℕ) (n : Name) (ys : List ℕ) : Type 0 where
  pub name : n ≡ k
  pub bytes : ys ≡ file_bytes c head size
  pub seen : List ℕ
  pub fine : file_fault c seen head size ≡ None

-- a directory of the list, by its number; `Holds` says of its items that they are the entries
pub record DirAs (ds : List Dir) (k : Name) (a b : ℕ) (n : Name) (Holds : List Item → Type 0) : Type 0 where
  pub name : n ≡ k
  pub number : ℕ
  pub found : find_dir 0 ds a b ≡ Some number
  pub holds : Holds (items_at number ds)

-- a name and a struct are a file of the tree, under a name and with some bytes
abbrev pub FileAs : Card → Fit → Name → List ℕ → Type 0
FileAs c (file_inline k xs) n ys = InlineAs k xs n ys
FileAs c (file_skip k head size) n ys = SkipAs c k head size n ys
FileAs c (dir_pair k a b) n ys = ⊥
FileAs c extra_superblock n ys = ⊥
FileAs c unfit n ys = ⊥

-- a name and a struct are a directory of the tree, under a name and with items of which something holds
abbrev pub DirectoryAs : List Dir → Fit → Name → (List Item → Type 0) → Type 0
DirectoryAs ds (dir_pair k a b) n Holds = DirAs ds k a b n Holds
DirectoryAs ds (file_inline k xs) n Holds = ⊥
DirectoryAs ds (file_skip k head size) n Holds = ⊥
DirectoryAs ds extra_superblock n Holds = ⊥
DirectoryAs ds unfit n Holds = ⊥

-- there are no items
abbrev pub NoItems : List Item → Type 0
NoItems [] = Unit {0}
NoItems (x ∷ xs) = ⊥

-- there is a first item, and something holds of it and those behind it
abbrev pub FirstItem : List Item → (Item → List Item → Type 0) → Type 0
FirstItem [] Holds = ⊥
FirstItem (x ∷ xs) Holds = Holds x xs

-- THE ENTRIES OF A TREE ARE THE ITEMS OF THE DIRECTORIES: `ShownAs` says it of one item, and `Shown` of all items of a directory,
-- in their order.
unfoldable mutual
  pub ShownAs : Card → List Dir → Fit → Name → Node → Type 0
  ShownAs c ds f n (file ys) = FileAs c f n ys
  ShownAs c ds f n (directory es) = DirectoryAs ds f n (λ xs. Shown c ds xs es)

  pub Shown : Card → List Dir → List Item → Entries → Type 0
  Shown c ds xs none = NoItems xs
  Shown c ds xs (entry n t es) = FirstItem xs (λ x ys. ShownAs c ds (fit_of x.slot) n t × Shown c ds ys es)

-- ---- the item of a name

-- whether a name and a struct have this name in the tree
abbrev pub has_name : Name → Fit → Bool
has_name n (file_inline k xs) = named n k
has_name n (file_skip k head size) = named n k
has_name n (dir_pair k a b) = named n k
has_name n extra_superblock = false
has_name n unfit = false

-- the first item of a name
unfoldable pub name_in : Name → List Item → Option Item
name_in n [] = None
name_in n (x ∷ xs) = cond (has_name n (fit_of x.slot)) (Some x) (name_in n xs)

-- what is found of the tree is what is found of the items: nothing with nothing, and an entry under a name with its item
abbrev pub FoundAs : Card → List Dir → Name → Option Item → Option Node → Type 0
FoundAs c ds n None None = Unit {0}
FoundAs c ds n None (Some t) = ⊥
FoundAs c ds n (Some x) None = ⊥
FoundAs c ds n (Some x) (Some t) = ShownAs c ds (fit_of x.slot) n t

-- the same of an entry with its name
abbrev pub StandsAs : Card → List Dir → Option Item → Option (Name × Node) → Type 0
StandsAs c ds None None = Unit {0}
StandsAs c ds None (Some e) = ⊥
StandsAs c ds (Some x) None = ⊥
StandsAs c ds (Some x) (Some e) = ShownAs c ds (fit_of x.slot) e.0 e.1

-- ---- what a reader may use of a card that was read

-- a card that is worth reading: not dark, of a right size, with a good root
pub record Readable (c : Card) : Type 0 where
  pub bright : c.dark ≡ false
  pub sized : is_size c.size (length c.blocks) ≡ true
  pub good_0 : is_good c 0 ≡ true
  pub good_1 : is_good c 1 ≡ true

-- nothing is hidden, or an entry that is there and may be
abbrev pub MayHide : Hiding → Type 0
MayHide shows = Unit {0}
MayHide (hides s) = Unit {0}
MayHide misses = ⊥
MayHide wrong_bits = ⊥

-- WHAT IS KNOWN OF A CARD AND ITS READING: the list of pairs and what it says as a whole, the tree as its items, and the orphans
pub record Known (c : Card) (r : Reading) : Type 0 where
  pub card : Readable c
  -- the list, and its first pair with the superblock
  pub list : thread c ≡ Ok r.pairs
  pub root : Pair
  pub others : List Pair
  pub begins : r.pairs ≡ root ∷ others
  pub superblock : is_root c root.state.entries ≡ true
  -- what the move data of all pairs say
  pub sync : r.sync ≡ sync_of (global_of r.pairs)
  pub hiding : r.hiding ≡ hiding_of r.pairs (global_of r.pairs)
  pub may_hide : MayHide r.hiding
  -- the entries of the tree, as they are met and as items of the root
  pub entries : Entries
  pub met : Met
  pub scanned : scan_dir 8 c (dirs_of r) 0 (record { seen = pair_blocks r.pairs; dirs = [] }) ≡ Ok (entries, met)
  pub tree : r.tree ≡ directory entries
  pub shown : Shown c (dirs_of r) (items_at 0 (dirs_of r)) entries
  -- the blocks that serve, and the directories that no entry names: none, unless the sync bit is set
  pub used : r.used ≡ met.seen
  pub orphans : r.orphans ≡ orphans_from 0 met.dirs (dirs_of r)
  pub no_orphan : r.sync ≡ false → r.orphans ≡ []
