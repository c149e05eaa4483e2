-- What a card holds, or its first fault: the size, the list pair by pair, the superblock, the global state, the tree entry
-- by entry, and the directories that no entry names.
use Rattle.std.specs.Prelude.{ℕ, zero, suc, Bool, true, false, cond, ◌&&◌, ◌||◌, List, [], ◌∷◌, ◌++◌, length, Some, None, Ok, Err, Option, Result, ◌==◌, nat_le}
use Rattle.flash.specs.Card.{Card, is_good}
use Rattle.volume.specs.Files.{file_blocks, file_bytes, file_fault}
use Rattle.volume.specs.Global.{is_spot, is_root, global_of, sync_of, same_blocks, Hiding, shows, hides, misses, wrong_bits, hiding_of}
use Rattle.volume.specs.Pair.{Pair, fault}
use Rattle.volume.specs.State as state
use Rattle.volume.specs.State.{Slot, Struct, pair, inline, skip, State, Tail, Moves}
use Rattle.volume.specs.Thread.{ends, goes, next_of, usable, member, thread}
use Rattle.volume.specs.Tree.{Name, before, is_name, Node, file, directory, Entries, none, entry}
use Rattle.volume.specs.declared.fault.Fault.{Fault}
use Rattle.volume.specs.declared.fault.What.{What}
use Rattle.volume.specs.declared.fault.What.TheVariants as what

-- ---- directories

-- an entry as the tree takes it: its parts, and the block of the log that it was read from
pub record Item : Type 0 where
  pub block : ℕ
  pub slot : Slot

-- whether an entry is none of the tree: the superblock, or the hidden one
abbrev pub is_left : Hiding → ℕ → ℕ → Bool
is_left (hides s) k i = is_spot s k i || (k == 0 && i == 0)
is_left shows k i = k == 0 && i == 0
is_left misses k i = k == 0 && i == 0
is_left wrong_bits k i = k == 0 && i == 0

-- the entries of the k-th pair, from the id i on
abbrev pub items_from : Hiding → ℕ → ℕ → ℕ → List Slot → List Item
items_from h block k i [] = []
items_from h block k i (x ∷ xs) = cond (is_left h k i) (items_from h block k (suc i) xs) (record { block = block; slot = x } ∷ items_from h block k (suc i) xs)

-- a directory of the list: the blocks of its first pair, the block of its log, its entries, and all its blocks
pub record Dir : Type 0 where
  pub a : ℕ
  pub b : ℕ
  pub block : ℕ
  pub items : List Item
  pub blocks : List ℕ

abbrev pub hardly : Option Tail → Bool
hardly None = false
hardly (Some t) = elim (next_of (Some t)) [ ends ↦ false | goes a b ↦ t.hard ]

-- a pair in front of the directories behind it: a hard tail joins it to the first of them
abbrev pub join : Bool → Dir → List Dir → List Dir
join hard d [] = d ∷ []
join true d (e ∷ es) = record { a = d.a; b = d.b; block = d.block; items = d.items ++ e.items; blocks = d.blocks ++ e.blocks } ∷ es
join false d (e ∷ es) = d ∷ e ∷ es

-- the directories of the list, from its k-th pair on
abbrev pub dirs_from : Hiding → ℕ → List Pair → List Dir
dirs_from h k [] = []
dirs_from h k (p ∷ ps) =
    join (hardly p.state.tail) (record { a = p.a; b = p.b; block = p.block; items = items_from h p.block k 0 p.state.entries; blocks = p.a ∷ p.b ∷ [] })
    (dirs_from h (suc k) ps)

-- which directory begins with a pair of blocks, counted from n
abbrev pub find_dir : ℕ → List Dir → ℕ → ℕ → Option ℕ
find_dir n [] x y = None
find_dir n (d ∷ ds) x y = cond (same_blocks d.a d.b x y) (Some n) (find_dir (suc n) ds x y)

abbrev pub items_at : ℕ → List Dir → List Item
items_at n [] = []
items_at zero (d ∷ ds) = d.items
items_at (suc n) (d ∷ ds) = items_at n ds

-- ---- the tree

-- what was met so far: the blocks that serve, and the directories that entries named
pub record Met : Type 0 where
  pub seen : List ℕ
  pub dirs : List ℕ

-- a part of the tree and what was met with it, or the first fault
abbrev pub Scan : Type 0 → Type 0
Scan A = Result (A × Met) Fault

abbrev pub then : {A B : Type 0} → Scan A → (A → Met → Scan B) → Scan B
then (Ok x) f = f x.0 x.1
then (Err e) f = Err e

-- a name that fits a struct
pub data Fit : Type 0 where
  file_inline : Name → List ℕ → Fit
  file_skip : Name → ℕ → ℕ → Fit
  dir_pair : Name → ℕ → ℕ → Fit
  extra_superblock : Fit
  unfit : Fit

abbrev pub fit_with : state.Name → Option Struct → Fit
fit_with n c = elim n.kind [
  | state.file ↦ elim c [ None ↦ unfit | Some s ↦ elim s [ pair a b ↦ unfit | inline xs ↦ file_inline n.bytes xs | skip h size ↦ file_skip n.bytes h size ] ]
  | state.directory ↦ elim c [ None ↦ unfit | Some s ↦ elim s [ pair a b ↦ dir_pair n.bytes a b | inline xs ↦ unfit | skip h size ↦ unfit ] ]
  | state.superblock ↦ elim c [ None ↦ unfit | Some s ↦ elim s [ pair a b ↦ unfit | inline xs ↦ extra_superblock | skip h size ↦ unfit ] ]
]

abbrev pub fit_of : Slot → Fit
fit_of x = elim x.name [ None ↦ unfit | Some n ↦ fit_with n x.content ]

-- what is wrong with the blocks that an entry names
abbrev pub content_fault : Card → List ℕ → Option Struct → Option What
content_fault c seen None = None
content_fault c seen (Some (pair a b)) = cond (usable c a && usable c b) None (Some what.EntryBlock)
content_fault c seen (Some (inline xs)) = None
content_fault c seen (Some (skip h size)) = file_fault c seen h size

abbrev pub follows : Option Name → Name → Bool
follows None n = true
follows (Some m) n = before m n

-- what is wrong with a name where it stands: behind the name before it, and as deep as it is
abbrev pub name_fault : Bool → Option Name → Name → Option What
name_fault deep last n = cond (follows last n) (cond (is_name n) (cond deep (Some what.Depth) None) (Some what.Name)) (Some what.NameOrder)

abbrev pub refused : {A : Type 0} → ℕ → What → Scan A
refused block w = Err (fault w block 0)

abbrev pub unless : {A : Type 0} → ℕ → Option What → Scan A → Scan A
unless block (Some w) r = refused block w
unless block None r = r

-- the directory that an entry names: one of the list, not the root, named by no entry before
abbrev pub entered : (ℕ → Met → Scan Entries) → ℕ → Option ℕ → Met → Scan Node
entered enter block None met = refused block what.Directory
entered enter block (Some n) met =
    cond (n == 0 || member n met.dirs) (refused block what.Directory)
    (then (enter n (record { seen = met.seen; dirs = n ∷ met.dirs })) (λ es met. Ok (directory es, met)))

-- one entry, whose content names good blocks: what it is in the tree
unfoldable pub node_of : Card → List Dir → (ℕ → Met → Scan Entries) → Bool → Option Name → ℕ → Fit → Met → Scan (Name × Node)
node_of c ds enter deep last block (file_inline n xs) met = unless block (name_fault deep last n) (Ok ((n, file xs), met))
node_of c ds enter deep last block (file_skip n h size) met =
    unless block (name_fault deep last n) (Ok ((n, file (file_bytes c h size)), record { seen = file_blocks c h size ++ met.seen; dirs = met.dirs }))
node_of c ds enter deep last block (dir_pair n a b) met =
    unless block (name_fault deep last n) (then (entered enter block (find_dir 0 ds a b) met) (λ t met. Ok ((n, t), met)))
node_of c ds enter deep last block extra_superblock met = refused block what.SuperblockElsewhere
node_of c ds enter deep last block unfit met = refused block what.Entry

abbrev pub scan_item : Card → List Dir → (ℕ → Met → Scan Entries) → Bool → Option Name → Item → Met → Scan (Name × Node)
scan_item c ds enter deep last x met = unless x.block (content_fault c met.seen x.slot.content) (node_of c ds enter deep last x.block (fit_of x.slot) met)

-- the entries of a directory, one after the other
unfoldable pub scan_items : Card → List Dir → (ℕ → Met → Scan Entries) → Bool → Option Name → List Item → Met → Scan Entries
scan_items c ds enter deep last [] met = Ok (none, met)
scan_items c ds enter deep last (x ∷ xs) met =
    then (scan_item c ds enter deep last x met) (λ nt met. then (scan_items c ds enter deep (Some nt.0) xs met) (λ es met. Ok (entry nt.0 nt.1 es, met)))

-- the entries of the n-th directory, where d more names may come below; with none, every entry is too deep
unfoldable pub scan_dir : ℕ → Card → List Dir → ℕ → Met → Scan Entries
scan_dir zero c ds n met = scan_items c ds (λ _ met. Ok (none, met)) true None (items_at n ds) met
scan_dir (suc d) c ds n met = scan_items c ds (scan_dir d c ds) false None (items_at n ds) met

-- ---- the whole

-- the directories that no entry named, with their numbers counted from n
abbrev pub orphans_from : ℕ → List ℕ → List Dir → List Dir
orphans_from n named [] = []
orphans_from n named (d ∷ ds) = cond (n == 0 || member n named) (orphans_from (suc n) named ds) (d ∷ orphans_from (suc n) named ds)

abbrev pub pair_blocks : List Pair → List ℕ
pair_blocks [] = []
pair_blocks (p ∷ ps) = p.a ∷ p.b ∷ pair_blocks ps

pub record Reading : Type 0 where
  pub tree : Node
  pub pairs : List Pair
  pub sync : Bool
  pub hiding : Hiding
  pub orphans : List Dir
  -- the blocks of the list and of the tree's files
  pub used : List ℕ

-- the blocks of directories
abbrev pub dir_blocks : List Dir → List ℕ
dir_blocks [] = []
dir_blocks (d ∷ ds) = d.blocks ++ dir_blocks ds

-- those of some numbers that are not among others
abbrev pub without : List ℕ → List ℕ → List ℕ
without ys [] = []
without ys (x ∷ xs) = cond (member x ys) (without ys xs) (x ∷ without ys xs)

-- the blocks of the tree: of its directories and of its files, so all used ones but those of orphans
abbrev pub tree_blocks : Reading → List ℕ
tree_blocks r = without (dir_blocks r.orphans) r.used

abbrev pub settle : List Pair → Bool → Hiding → List Dir → Scan Entries → Result Reading Fault
settle ps sync h orphans (Err e) = Err e
settle ps sync h orphans (Ok x) = Ok (record { tree = directory x.0; pairs = ps; sync = sync; hiding = h; orphans = orphans; used = x.1.seen })

abbrev pub met_dirs : Scan Entries → List ℕ
met_dirs (Ok x) = x.1.dirs
met_dirs (Err e) = []

abbrev pub orphaned : List Pair → Bool → Hiding → List Dir → Scan Entries → Result Reading Fault
orphaned ps true h os r = settle ps true h os r
orphaned ps false h [] r = settle ps false h [] r
orphaned ps false h (d ∷ ds) (Ok x) = Err (fault what.Orphan d.block 0)
orphaned ps false h (d ∷ ds) (Err e) = Err e

-- the tree, and then the orphans
abbrev pub check_tree : Card → List Pair → Bool → Hiding → Result Reading Fault
check_tree c ps sync h =
    let ds = dirs_from h 0 ps in
    let r = scan_dir 8 c ds 0 (record { seen = pair_blocks ps; dirs = [] }) in
    orphaned ps sync h (orphans_from 0 (met_dirs r) ds) r

abbrev pub check_global : Card → Pair → List Pair → Moves → Hiding → Result Reading Fault
check_global c root ps g shows = check_tree c ps (sync_of g) shows
check_global c root ps g (hides s) = check_tree c ps (sync_of g) (hides s)
check_global c root ps g misses = Err (fault what.Hidden g.first 0)
check_global c root ps g wrong_bits = Err (fault what.MoveBits root.block 0)

abbrev pub check_root : Card → List Pair → Result Reading Fault
check_root c [] = Err (fault what.NoCommit 0 0)
check_root c (p ∷ ps) =
    cond (is_root c p.state.entries) (check_global c p (p ∷ ps) (global_of (p ∷ ps)) (hiding_of (p ∷ ps) (global_of (p ∷ ps)))) (Err (fault what.Superblock p.block 0))

abbrev pub check_list : Card → Result (List Pair) Fault → Result Reading Fault
check_list c (Err e) = Err e
check_list c (Ok ps) = check_root c ps

-- whether a card may have blocks of this size, and this many
abbrev pub is_size : ℕ → ℕ → Bool
is_size size count = (size == 512 || (size == 1024 || (size == 2048 || size == 4096))) && (nat_le 8 count && nat_le count 4096)

-- THE CHECK: what a card holds, or its first fault
unfoldable pub check : Card → Result Reading Fault
check c =
    cond c.dark (Err (fault what.Dark 0 0))
    (cond (is_size c.size (length c.blocks))
    (cond (is_good c 0) (cond (is_good c 1) (check_list c (thread c)) (Err (fault what.RootBlock 1 0))) (Err (fault what.RootBlock 0 0)))
    (Err (fault what.Size 0 0)))
