-- The entries of a tree that was read are the items of the card's directories, one by one; so a search in the tree is a
-- search in the items.
use Rattle.std.proofs.Common.{◌≡◌, ℕ, zero, suc, Bool, true, false, cond, List, [], ◌∷◌, ◌++◌, length, Some, None, Ok, Err, Option, Result, sym, refl, ap, ◌∙◌, subst, arith}
use Rattle.std.specs.List as finite
use Rattle.flash.specs.Card.{Card, is_good}
use Rattle.volume.specs.State as state
use Rattle.volume.specs.State.{Struct, pair, inline, skip}
use Rattle.volume.specs.Pair.{Pair, fault}
use Rattle.volume.specs.Thread.{thread}
use Rattle.volume.specs.Global.{is_root, global_of, sync_of, Hiding, shows, hides, misses, wrong_bits, hiding_of}
use Rattle.volume.specs.Files.{file_bytes, file_fault}
use Rattle.volume.specs.Tree.{Name, named, Node, file, directory, Entries, none, entry, child, nth}
use Rattle.volume.specs.Check.{Item, Dir, find_dir, items_at, Met, Scan, then, Fit, file_inline, file_skip, dir_pair, extra_superblock, unfit, fit_with, fit_of, content_fault, name_fault, entered, node_of, scan_item, scan_items, scan_dir, dirs_from, orphans_from, met_dirs, orphaned, check_tree, check_global, check_root, check_list, is_size, Reading, check}
use Rattle.volume.specs.Paths.{missing, onward, find}
use Rattle.volume.specs.Listing.{SkipAs, DirAs, ShownAs, Shown, has_name, name_in, FoundAs, StandsAs, Readable, MayHide, Known}
use Rattle.volume.specs.declared.fault.Fault.{Fault}
use Rattle.volume.specs.declared.fault.What.TheVariants as what
use Rattle.volume.proofs.Lists.{no_answer, same_answer}
use Rattle.volume.proofs.ScanFrames.{went, fine, met_file}
use Rattle.volume.proofs.Frames.{begin, tests, passes}
use Rattle.volume.proofs.Orders.{named_same}
use Rattle.volume.proofs.OnePath.{name_fine, went_in, tree_settled}

-- ---- the items of a tree that is read

-- what is known of a function that reads directories
abbrev Reads : Card → List Dir → (ℕ → Met → Scan Entries) → Type 0
Reads c ds enter = (k : ℕ) (m : Met) (z : Entries × Met) → enter k m ≡ Ok z → Shown c ds (items_at k ds) z.0

-- a skip-list file that fits its name is the content, so that the test of the content is that of the file
fit_fine : (c : Card) (seen : List ℕ) (nm : Option state.Name) (ct : Option Struct) (k : Name) (head size : ℕ) → fit_of (record { name = nm; content = ct }) ≡ file_skip k head size → content_fault c seen ct ≡ file_fault c seen head size
fit_fine c seen None ct k head size e = let bad : ◌≡◌ {A = ℕ} 0 1 = cc in absurd (omega arith)
fit_fine c seen (Some n) ct k head size e = by n.kind ct e
  where
    by : (q : state.Kind) (t : Option Struct) → fit_with (record { kind = q; bytes = n.bytes }) t ≡ file_skip k head size → content_fault c seen t ≡ file_fault c seen head size
    by state.file None h = let bad : ◌≡◌ {A = ℕ} 0 1 = cc in absurd (omega arith)
    by state.file (Some (pair a b)) h = let bad : ◌≡◌ {A = ℕ} 0 1 = cc in absurd (omega arith)
    by state.file (Some (inline xs)) h = let bad : ◌≡◌ {A = ℕ} 0 1 = cc in absurd (omega arith)
    by state.file (Some (skip i s)) h = let at : i ≡ head = cc in let long : s ≡ size = cc in ap (λ v. file_fault c seen v s) at ∙ ap (λ v. file_fault c seen head v) long
    by state.directory None h = let bad : ◌≡◌ {A = ℕ} 0 1 = cc in absurd (omega arith)
    by state.directory (Some (pair a b)) h = let bad : ◌≡◌ {A = ℕ} 0 1 = cc in absurd (omega arith)
    by state.directory (Some (inline xs)) h = let bad : ◌≡◌ {A = ℕ} 0 1 = cc in absurd (omega arith)
    by state.directory (Some (skip i s)) h = let bad : ◌≡◌ {A = ℕ} 0 1 = cc in absurd (omega arith)
    by state.superblock None h = let bad : ◌≡◌ {A = ℕ} 0 1 = cc in absurd (omega arith)
    by state.superblock (Some (pair a b)) h = let bad : ◌≡◌ {A = ℕ} 0 1 = cc in absurd (omega arith)
    by state.superblock (Some (inline xs)) h = let bad : ◌≡◌ {A = ℕ} 0 1 = cc in absurd (omega arith)
    by state.superblock (Some (skip i s)) h = let bad : ◌≡◌ {A = ℕ} 0 1 = cc in absurd (omega arith)

module _ (c : Card) (ds : List Dir) (enter : ℕ → Met → Scan Entries) (deep : Bool) (below : deep ≡ false → Reads c ds enter) where
  -- an item that is of the tree, of which the test of a file holds if it is one
  node_shown : (last : Option Name) (block : ℕ) (f : Fit) (m : Met) (z : (Name × Node) × Met) → ((k : Name) (head size : ℕ) → f ≡ file_skip k head size → file_fault c m.seen head size ≡ None)
      → node_of c ds enter deep last block f m ≡ Ok z → ShownAs c ds f z.0.0 z.0.1
  unfolding node_of ShownAs
  node_shown last block (file_inline n xs) m z good e =
      let both = fine block (name_fault deep last n) (Ok ((n, file xs), m)) z e in
      subst (λ (v : (Name × Node) × Met). ShownAs c ds (file_inline n xs) v.0.0 v.0.1) (same_answer _ z both.1) (record { name = refl; bytes = refl })
  node_shown last block (file_skip n head size) m z good e =
      let both = fine block (name_fault deep last n) (met_file c n head size m) z e in
      subst (λ (v : (Name × Node) × Met). ShownAs c ds (file_skip n head size) v.0.0 v.0.1) (same_answer _ z both.1)
      (record { name = refl; bytes = refl; seen = m.seen; fine = good n head size refl })
  node_shown last block (dir_pair n a b) m z good e =
      let both = fine block (name_fault deep last n) (then (entered enter block (find_dir 0 ds a b) m) (λ t met. Ok ((n, t), met))) z e in
      let w = went (entered enter block (find_dir 0 ds a b) m) (λ t met. Ok ((n, t), met)) z both.1 in
      let d = went_in enter block (find_dir 0 ds a b) m (w.x, w.met) w.first in
      let inside = below (name_fine deep last n both.0).1 d.k (record { seen = m.seen; dirs = d.k ∷ m.dirs }) (d.es, w.met) d.read in
      subst (λ (v : (Name × Node) × Met). ShownAs c ds (dir_pair n a b) v.0.0 v.0.1) (same_answer _ z w.after)
      (subst (λ t. ShownAs c ds (dir_pair n a b) n t) (sym d.is) (record { name = refl; number = d.k; found = d.found; holds = inside }))
  node_shown last block extra_superblock m z good e = absurd (no_answer _ z e)
  node_shown last block unfit m z good e = absurd (no_answer _ z e)

  -- the items of a directory, one after the other
  items_shown : (last : Option Name) (xs : List Item) (m : Met) (z : Entries × Met) → scan_items c ds enter deep last xs m ≡ Ok z → Shown c ds xs z.0
  unfolding scan_items Shown
  items_shown last [] m z e = subst (λ (v : Entries × Met). Shown c ds [] v.0) (same_answer _ z e) tt
  items_shown last (x ∷ xs) m z e =
      let w = went (scan_item c ds enter deep last x m) (λ nt met. then (scan_items c ds enter deep (Some nt.0) xs met) (λ es met. Ok (entry nt.0 nt.1 es, met))) z e in
      let n = w.x.0 in
      let u = went (scan_items c ds enter deep (Some n) xs w.met) (λ es met. Ok (entry n w.x.1 es, met)) z w.after in
      let own = fine x.block (content_fault c m.seen x.slot.content) (node_of c ds enter deep last x.block (fit_of x.slot) m) (w.x, w.met) w.first in
      let here = node_shown last x.block (fit_of x.slot) m (w.x, w.met) (λ k head size h. sym (fit_fine c m.seen x.slot.name x.slot.content k head size h) ∙ own.0) own.1 in
      let rest = items_shown (Some n) xs w.met (u.x, u.met) u.first in
      subst (λ (v : Entries × Met). Shown c ds (x ∷ xs) v.0) (same_answer _ z u.after) (here, rest)

-- the items of a directory that was read are its entries; at the last depth it has none
pub scan_shown : (depth : ℕ) (c : Card) (ds : List Dir) → Reads c ds (scan_dir depth c ds)
unfolding scan_dir
scan_shown zero c ds k m z e = items_shown c ds (λ _ met. Ok (none, met)) true (λ h. let bad : ◌≡◌ {A = ℕ} 0 1 = cc in absurd (omega arith)) None (items_at k ds) m z e
scan_shown (suc depth) c ds k m z e = items_shown c ds (scan_dir depth c ds) false (λ h. scan_shown depth c ds) None (items_at k ds) m z e

-- ---- what a reading says

-- a card that is read passes the tests before the list
readable : (c : Card) (t : Result Reading Fault) (r : Reading) → tests c.dark (is_size c.size (length c.blocks)) (is_good c 0) (is_good c 1) t ≡ Ok r → Readable c
readable c t r e = by c.dark (is_size c.size (length c.blocks)) (is_good c 0) (is_good c 1) refl refl refl refl e
  where
    by : (dark size g0 g1 : Bool) → c.dark ≡ dark → is_size c.size (length c.blocks) ≡ size → is_good c 0 ≡ g0 → is_good c 1 ≡ g1 → tests dark size g0 g1 t ≡ Ok r → Readable c
    by true size g0 g1 h i j k f = absurd (no_answer _ r f)
    by false false g0 g1 h i j k f = absurd (no_answer _ r f)
    by false true false g1 h i j k f = absurd (no_answer _ r f)
    by false true true false h i j k f = absurd (no_answer _ r f)
    by false true true true h i j k f = record { bright = h; sized = i; good_0 = j; good_1 = k }

-- without the sync bit there are no orphans
no_orphan : (ps : List Pair) (sync : Bool) (h : Hiding) (os : List Dir) (rs : Scan Entries) (r : Reading) → orphaned ps sync h os rs ≡ Ok r → sync ≡ false → os ≡ []
no_orphan ps true h os rs r e f = let bad : ◌≡◌ {A = ℕ} 0 1 = cc in absurd (omega arith)
no_orphan ps false h [] rs r e f = refl
no_orphan ps false h (d ∷ ds) (Ok x) r e f = absurd (no_answer _ r e)
no_orphan ps false h (d ∷ ds) (Err k) r e f = absurd (no_answer k r e)

module _ (c : Card) (card : Readable c) (p : Pair) (ps : List Pair) (list : thread c ≡ Ok (p ∷ ps)) (superblock : is_root c p.state.entries ≡ true) (r : Reading) where
  -- a tree that was read
  tree_known : (h : Hiding) → MayHide h → h ≡ hiding_of (p ∷ ps) (global_of (p ∷ ps)) → check_tree c (p ∷ ps) (sync_of (global_of (p ∷ ps))) h ≡ Ok r → Known c r
  tree_known h may is e =
      let sync = sync_of (global_of (p ∷ ps)) in
      let ds = dirs_from h 0 (p ∷ ps) in
      let rc = scan_dir 8 c ds 0 (begin (p ∷ ps)) in
      let os = orphans_from 0 (met_dirs rc) ds in
      let read = tree_settled (p ∷ ps) sync h os rc r e in
      subst (Known c) read.made (record {
        card = card;
        list = list;
        root = p;
        others = ps;
        begins = refl;
        superblock = superblock;
        sync = refl;
        hiding = is;
        may_hide = may;
        entries = read.x.0;
        met = read.x.1;
        scanned = read.is;
        tree = refl;
        shown = scan_shown 8 c ds 0 (begin (p ∷ ps)) read.x read.is;
        used = refl;
        orphans = ap (λ v. orphans_from 0 (met_dirs v) ds) read.is;
        no_orphan = no_orphan (p ∷ ps) sync h os rc r e;
      })

  -- after the global state
  global_known : (h : Hiding) → h ≡ hiding_of (p ∷ ps) (global_of (p ∷ ps)) → check_global c p (p ∷ ps) (global_of (p ∷ ps)) h ≡ Ok r → Known c r
  global_known shows is e = tree_known shows tt is e
  global_known (hides s) is e = tree_known (hides s) tt is e
  global_known misses is e = absurd (no_answer _ r e)
  global_known wrong_bits is e = absurd (no_answer _ r e)

-- after the list of pairs
list_known : (c : Card) (ps : List Pair) (r : Reading) → Readable c → thread c ≡ Ok ps → check_root c ps ≡ Ok r → Known c r
list_known c [] r card list e = absurd (no_answer _ r e)
list_known c (p ∷ ps) r card list e = by (is_root c p.state.entries) refl e
  where
    by : (v : Bool) → is_root c p.state.entries ≡ v → cond v (check_global c p (p ∷ ps) (global_of (p ∷ ps)) (hiding_of (p ∷ ps) (global_of (p ∷ ps)))) (Err (fault what.Superblock p.block 0)) ≡ Ok r → Known c r
    by true h k = global_known c card p ps list h r (hiding_of (p ∷ ps) (global_of (p ∷ ps))) refl k
    by false h k = absurd (no_answer _ r k)

-- WHAT A READING SAYS: all that is known of the card
pub known : (c : Card) (r : Reading) → check c ≡ Ok r → Known c r
unfolding check
known c r e = by (thread c) refl (passes c.dark (is_size c.size (length c.blocks)) (is_good c 0) (is_good c 1) (check_list c (thread c)) r e)
  where
    by : (t : Result (List Pair) Fault) → thread c ≡ t → check_list c t ≡ Ok r → Known c r
    by (Err f) h k = absurd (no_answer f r k)
    by (Ok ps) h k = list_known c ps r (readable c (check_list c (thread c)) r e) h k

-- ---- an item by what it is

-- a file with its bytes in the log
pub shown_inline : (c : Card) (ds : List Dir) (k : Name) (xs : List ℕ) (n : Name) (t : Node) → ShownAs c ds (file_inline k xs) n t → (n ≡ k) × (t ≡ file xs)
unfolding ShownAs
shown_inline c ds k xs n (file ys) s = (s.name, ap file s.bytes)
shown_inline c ds k xs n (directory es) s = absurd s

-- a file with blocks of its own
pub shown_skip : (c : Card) (ds : List Dir) (k : Name) (head size : ℕ) (n : Name) (t : Node) → ShownAs c ds (file_skip k head size) n t → SkipAs c k head size n (file_bytes c head size) × (t ≡ file (file_bytes c head size))
unfolding ShownAs
shown_skip c ds k head size n (file ys) s = (record { name = s.name; bytes = refl; seen = s.seen; fine = s.fine }, ap file s.bytes)
shown_skip c ds k head size n (directory es) s = absurd s

-- a directory
pub shown_dir : (c : Card) (ds : List Dir) (k : Name) (a b : ℕ) (n : Name) (t : Node) → ShownAs c ds (dir_pair k a b) n t → (es : Entries) × (DirAs ds k a b n (λ xs. Shown c ds xs es) × (t ≡ directory es))
unfolding ShownAs
shown_dir c ds k a b n (file ys) s = absurd s
shown_dir c ds k a b n (directory es) s = (es, (s, refl))

-- nothing else is of the tree
pub shown_superblock : (c : Card) (ds : List Dir) (n : Name) (t : Node) → ShownAs c ds extra_superblock n t → ⊥
unfolding ShownAs
shown_superblock c ds n (file ys) s = s
shown_superblock c ds n (directory es) s = s

pub shown_unfit : (c : Card) (ds : List Dir) (n : Name) (t : Node) → ShownAs c ds unfit n t → ⊥
unfolding ShownAs
shown_unfit c ds n (file ys) s = s
shown_unfit c ds n (directory es) s = s

-- ---- searches

-- an item has the name of its entry, and no other
pub shown_name : (c : Card) (ds : List Dir) (f : Fit) (k : Name) (t : Node) (n : Name) → ShownAs c ds f k t → has_name n f ≡ named n k
shown_name c ds (file_inline m xs) k t n s = ap (named n) (sym (shown_inline c ds m xs k t s).0)
shown_name c ds (file_skip m head size) k t n s = ap (named n) (sym (shown_skip c ds m head size k t s).0.name)
shown_name c ds (dir_pair m a b) k t n s = ap (named n) (sym (shown_dir c ds m a b k t s).1.0.name)
shown_name c ds extra_superblock k t n s = absurd (shown_superblock c ds k t s)
shown_name c ds unfit k t n s = absurd (shown_unfit c ds k t s)

-- the entry of a name is the item of that name
pub child_shown : (c : Card) (ds : List Dir) (n : Name) (xs : List Item) (es : Entries) → Shown c ds xs es → FoundAs c ds n (name_in n xs) (child n es)
unfolding Shown child name_in
child_shown c ds n [] none s = tt
child_shown c ds n (x ∷ xs) none s = absurd s
child_shown c ds n [] (entry k t es) s = absurd s
child_shown c ds n (x ∷ xs) (entry k t es) s =
    subst (λ v. FoundAs c ds n (cond v (Some x) (name_in n xs)) (cond (named n k) (Some t) (child n es))) (sym (shown_name c ds (fit_of x.slot) k t n s.0))
    (by (named n k) refl (child_shown c ds n xs es s.1))
  where
    by : (v : Bool) → named n k ≡ v → FoundAs c ds n (name_in n xs) (child n es) → FoundAs c ds n (cond v (Some x) (name_in n xs)) (cond v (Some t) (child n es))
    by true h rest = subst (λ m. ShownAs c ds (fit_of x.slot) m t) (sym (named_same n k h)) s.0
    by false h rest = rest

-- the entry at a place is the item at that place
pub nth_shown : (c : Card) (ds : List Dir) (i : ℕ) (xs : List Item) (es : Entries) → Shown c ds xs es → StandsAs c ds (finite.slice_get xs i) (nth i es)
unfolding Shown nth
nth_shown c ds i [] none s = tt
nth_shown c ds i (x ∷ xs) none s = absurd s
nth_shown c ds i [] (entry k t es) s = absurd s
nth_shown c ds zero (x ∷ xs) (entry k t es) s = s.0
nth_shown c ds (suc i) (x ∷ xs) (entry k t es) s = nth_shown c ds i xs es s.1

-- the item that is found has the name
pub name_found : (n : Name) (xs : List Item) (x : Item) → name_in n xs ≡ Some x → has_name n (fit_of x.slot) ≡ true
unfolding name_in
name_found n [] x e = let bad : ◌≡◌ {A = ℕ} 0 1 = cc in absurd (omega arith)
name_found n (y ∷ ys) x e = by (has_name n (fit_of y.slot)) refl e (name_found n ys x)
  where
    by : (v : Bool) → has_name n (fit_of y.slot) ≡ v → cond v (Some y) (name_in n ys) ≡ Some x → (name_in n ys ≡ Some x → has_name n (fit_of x.slot) ≡ true) → has_name n (fit_of x.slot) ≡ true
    by true h f rest = let is : y ≡ x = cc in subst (λ (z : Item). has_name n (fit_of z.slot) ≡ true) is h
    by false h f rest = rest f

-- of two lists of items, the first is searched first
pub name_before : (n : Name) (xs ys : List Item) (x : Item) → name_in n xs ≡ Some x → name_in n (xs ++ ys) ≡ Some x
unfolding name_in
name_before n [] ys x e = let bad : ◌≡◌ {A = ℕ} 0 1 = cc in absurd (omega arith)
name_before n (z ∷ zs) ys x e = by (has_name n (fit_of z.slot)) e (name_before n zs ys x)
  where
    by : (v : Bool) → cond v (Some z) (name_in n zs) ≡ Some x → (name_in n zs ≡ Some x → name_in n (zs ++ ys) ≡ Some x) → cond v (Some z) (name_in n (zs ++ ys)) ≡ Some x
    by true f rest = f
    by false f rest = rest f

pub name_behind : (n : Name) (xs ys : List Item) → name_in n xs ≡ None → name_in n (xs ++ ys) ≡ name_in n ys
unfolding name_in
name_behind n [] ys e = refl
name_behind n (z ∷ zs) ys e = by (has_name n (fit_of z.slot)) e (name_behind n zs ys)
  where
    by : (v : Bool) → cond v (Some z) (name_in n zs) ≡ None → (name_in n zs ≡ None → name_in n (zs ++ ys) ≡ name_in n ys) → cond v (Some z) (name_in n (zs ++ ys)) ≡ name_in n ys
    by true f rest = let bad : ◌≡◌ {A = ℕ} 0 1 = cc in absurd (omega arith)
    by false f rest = rest f

-- a path whose first name is that of no item
pub find_missing : (c : Card) (ds : List Dir) (n : Name) (p : List Name) (xs : List Item) (es : Entries) → Shown c ds xs es → name_in n xs ≡ None → find (n ∷ p) (directory es) ≡ missing
unfolding find
find_missing c ds n p xs es s e = by (child n es) (subst (λ v. FoundAs c ds n v (child n es)) e (child_shown c ds n xs es s))
  where
    by : (v : Option Node) → FoundAs c ds n None v → onward (find p) v ≡ missing
    by None f = refl
    by (Some t) f = absurd f

-- a path whose first name is that of an item goes on at what the item is in the tree
pub find_shown : (c : Card) (ds : List Dir) (n : Name) (p : List Name) (xs : List Item) (es : Entries) (x : Item) → Shown c ds xs es → name_in n xs ≡ Some x → (t : Node) × (ShownAs c ds (fit_of x.slot) n t × (find (n ∷ p) (directory es) ≡ find p t))
unfolding find
find_shown c ds n p xs es x s e = by (child n es) (subst (λ v. FoundAs c ds n v (child n es)) e (child_shown c ds n xs es s))
  where
    by : (v : Option Node) → FoundAs c ds n (Some x) v → (t : Node) × (ShownAs c ds (fit_of x.slot) n t × (onward (find p) v ≡ find p t))
    by None f = absurd f
    by (Some t) f = (t, (f, refl))
