-- What was met stays apart while the tree is read, so that no block of a card that can be read serves twice.
use Rattle.std.proofs.Common.{◌≡◌, ℕ, zero, suc, Bool, true, false, cond, ◌||◌, eqb, List, [], ◌∷◌, length, Some, None, Ok, Err, Option, Result, sym, refl, subst}
use Rattle.flash.specs.Card.{Card, is_good}
use Rattle.volume.specs.State as state
use Rattle.volume.specs.State.{Struct, pair, inline, skip, Moves}
use Rattle.volume.specs.Pair.{Pair, fault}
use Rattle.volume.specs.Thread.{member, thread}
use Rattle.volume.specs.Files.{file_blocks, file_fault}
use Rattle.volume.specs.Global.{is_root, global_of, sync_of, Hiding, shows, hides, misses, wrong_bits, hiding_of}
use Rattle.volume.specs.Tree.{Name, Node, file, directory, Entries, none, entry}
use Rattle.volume.specs.Check.{Item, Dir, dirs_from, find_dir, items_at, Met, Scan, then, fit_with, fit_of, content_fault, name_fault, refused, unless, entered, node_of, scan_items, scan_dir, orphans_from, pair_blocks, Reading, met_dirs, check_tree, check_global, check_root, check_list, is_size, check}
use Rattle.volume.specs.Laws.{Apart, ServesOnce}
use Rattle.volume.specs.declared.fault.Fault.{Fault}
use Rattle.volume.specs.declared.fault.What.{What}
use Rattle.volume.specs.declared.fault.What.TheVariants as what
use Rattle.volume.proofs.Lists.{no_answer, same_answer}
use Rattle.volume.proofs.ScanFrames.{went, met_file}
use Rattle.volume.proofs.Frames.{read_tree, begin, passes}
use Rattle.volume.proofs.Aparts.{apart_append, walk_apart, file_apart}

-- what is met from here on is apart, if what was met before is
record Kept {A : Type 0} (m : Met) (r : Scan A) : Type 0 where
  apart : (z : A × Met) → r ≡ Ok z → Apart m.seen → Apart z.1.seen

kept_then : {A B : Type 0} (m : Met) (r : Scan A) (f : A → Met → Scan B) → Kept m r → ((x : A) (n : Met) → Kept n (f x n)) → Kept m (then r f)
kept_then m r f p q = record { apart = λ z e a. let w = went r f z e in (q w.x w.met).apart z w.after (p.apart (w.x, w.met) w.first a) }

kept_answer : {A : Type 0} (m : Met) (x : A) → Kept {A = A} m (Ok (x, m))
kept_answer {A = A} m x = record { apart = λ z e a. subst (λ (v : A × Met). Apart v.1.seen) (same_answer (x, m) z e) a }

kept_refused : {A : Type 0} (m : Met) (f : Fault) → Kept {A = A} m (Err f)
kept_refused m f = record { apart = λ z e a. absurd (no_answer f z e) }

kept_unless : {A : Type 0} (m : Met) (block : ℕ) (w : Option What) (r : Scan A) → (w ≡ None → Kept m r) → Kept m (unless block w r)
kept_unless m block None r p = p refl
kept_unless m block (Some w) r p = kept_refused m _

module _ (c : Card) (ds : List Dir) (enter : ℕ → Met → Scan Entries) (below : (n : ℕ) (m : Met) → Kept m (enter n m)) where
  entered_kept : (block : ℕ) (o : Option ℕ) (m : Met) → Kept m (entered enter block o m)
  entered_kept block None m = kept_refused m _
  entered_kept block (Some n) m = by (eqb n 0 || member n m.dirs)
    where
      by : (v : Bool) → Kept m (cond v (refused block what.Directory) (then (enter n (record { seen = m.seen; dirs = n ∷ m.dirs })) (λ es met. Ok (directory es, met))))
      by true = kept_refused m _
      by false =
          let p = kept_then (record { seen = m.seen; dirs = n ∷ m.dirs }) (enter n (record { seen = m.seen; dirs = n ∷ m.dirs })) (λ es met. Ok (directory es, met)) (below n (record { seen = m.seen; dirs = n ∷ m.dirs })) (λ es met. kept_answer met (directory es)) in
          record { apart = p.apart }

  -- a file with blocks of its own
  file_kept : (n : Name) (h size : ℕ) (m : Met) → file_fault c m.seen h size ≡ None → Kept m (met_file c n h size m)
  file_kept n h size m e =
      let own = file_apart c m.seen h size e in
      record { apart = λ z f a. subst (λ (v : (Name × Node) × Met). Apart v.1.seen) (same_answer _ z f) (apart_append (file_blocks c h size) m.seen own.0 a own.1) }

  parts_kept : (deep : Bool) (last : Option Name) (block : ℕ) (nm : Option state.Name) (ct : Option Struct) (m : Met) → Kept m (unless block (content_fault c m.seen ct) (node_of c ds enter deep last block (fit_of (record { name = nm; content = ct })) m))
  unfolding node_of
  parts_kept deep last block None ct m = kept_unless m block (content_fault c m.seen ct) _ (λ e. kept_refused m _)
  parts_kept deep last block (Some n) ct m = by n.kind ct
    where
      by : (q : state.Kind) (ct : Option Struct) → Kept m (unless block (content_fault c m.seen ct) (node_of c ds enter deep last block (fit_with (record { kind = q; bytes = n.bytes }) ct) m))
      by state.file None = kept_refused m _
      by state.file (Some (pair a b)) = kept_unless m block (content_fault c m.seen (Some (pair a b))) _ (λ e. kept_refused m _)
      by state.file (Some (inline xs)) = kept_unless m block (name_fault deep last n.bytes) _ (λ e. kept_answer m (n.bytes, file xs))
      by state.file (Some (skip h size)) = kept_unless m block (file_fault c m.seen h size) _ (λ e. kept_unless m block (name_fault deep last n.bytes) _ (λ f. file_kept n.bytes h size m e))
      by state.directory None = kept_refused m _
      by state.directory (Some (pair a b)) =
          kept_unless m block (content_fault c m.seen (Some (pair a b))) _
          (λ e. kept_unless m block (name_fault deep last n.bytes) _ (λ f. kept_then m _ _ (entered_kept block (find_dir 0 ds a b) m) (λ t met. kept_answer met (n.bytes, t))))
      by state.directory (Some (inline xs)) = kept_refused m _
      by state.directory (Some (skip h size)) = kept_unless m block (file_fault c m.seen h size) _ (λ e. kept_refused m _)
      by state.superblock None = kept_refused m _
      by state.superblock (Some (pair a b)) = kept_unless m block (content_fault c m.seen (Some (pair a b))) _ (λ e. kept_refused m _)
      by state.superblock (Some (inline xs)) = kept_refused m _
      by state.superblock (Some (skip h size)) = kept_unless m block (file_fault c m.seen h size) _ (λ e. kept_refused m _)

  items_kept : (deep : Bool) (last : Option Name) (xs : List Item) (m : Met) → Kept m (scan_items c ds enter deep last xs m)
  unfolding scan_items
  items_kept deep last [] m = kept_answer m none
  items_kept deep last (x ∷ xs) m =
      kept_then m _ _ (parts_kept deep last x.block x.slot.name x.slot.content m)
      (λ nt n. kept_then n _ _ (items_kept deep (Some nt.0) xs n) (λ es k. kept_answer k (entry nt.0 nt.1 es)))

dir_kept : (depth : ℕ) (c : Card) (ds : List Dir) (n : ℕ) (m : Met) → Kept m (scan_dir depth c ds n m)
unfolding scan_dir
dir_kept zero c ds n m = items_kept c ds (λ _ met. Ok (none, met)) (λ k met. kept_answer met none) true None (items_at n ds) m
dir_kept (suc depth) c ds n m = items_kept c ds (scan_dir depth c ds) (λ k met. dir_kept depth c ds k met) false None (items_at n ds) m

tree_once : (c : Card) (ps : List Pair) (sync : Bool) (h : Hiding) (r : Reading) → Apart (pair_blocks ps) → check_tree c ps sync h ≡ Ok r → Apart r.used
tree_once c ps sync h r a e =
    let ds = dirs_from h 0 ps in
    let rc = scan_dir 8 c ds 0 (begin ps) in
    let read = read_tree ps sync h (orphans_from 0 (met_dirs rc) ds) rc r e in
    subst Apart (sym read.used) ((dir_kept 8 c ds 0 (begin ps)).apart read.x read.is a)

global_once : (c : Card) (p : Pair) (ps : List Pair) (g : Moves) (h : Hiding) (r : Reading) → Apart (pair_blocks ps) → check_global c p ps g h ≡ Ok r → Apart r.used
global_once c p ps g shows r a e = tree_once c ps (sync_of g) shows r a e
global_once c p ps g (hides t) r a e = tree_once c ps (sync_of g) (hides t) r a e
global_once c p ps g misses r a e = absurd (no_answer _ r e)
global_once c p ps g wrong_bits r a e = absurd (no_answer _ r e)

root_once : (c : Card) (ps : List Pair) (r : Reading) → Apart (pair_blocks ps) → check_root c ps ≡ Ok r → Apart r.used
root_once c [] r a e = absurd (no_answer _ r e)
root_once c (p ∷ ps) r a e = by (is_root c p.state.entries) e
  where
    by : (v : Bool) → cond v (check_global c p (p ∷ ps) (global_of (p ∷ ps)) (hiding_of (p ∷ ps) (global_of (p ∷ ps)))) (Err (fault what.Superblock p.block 0)) ≡ Ok r → Apart r.used
    by true k = global_once c p (p ∷ ps) (global_of (p ∷ ps)) (hiding_of (p ∷ ps) (global_of (p ∷ ps))) r a k
    by false k = absurd (no_answer _ r k)

list_once : (c : Card) (r : Reading) → check_list c (thread c) ≡ Ok r → Apart r.used
list_once c r e = by (thread c) refl e
  where
    by : (t : Result (List Pair) Fault) → thread c ≡ t → check_list c t ≡ Ok r → Apart r.used
    by (Err f) h k = absurd (no_answer f r k)
    by (Ok ps) h k = root_once c ps r (walk_apart (length c.blocks) c [] 0 1 ps h refl refl refl).0 k

pub serves_once : ServesOnce
unfolding check
serves_once c r e = list_once c r (passes c.dark (is_size c.size (length c.blocks)) (is_good c 0) (is_good c 1) (check_list c (thread c)) r e)
