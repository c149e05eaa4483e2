-- What a card holds depends only on the blocks that it uses.
use Rattle.std.proofs.Common.{◌≡◌, Bool, true, false, cond, ◌&&◌, List, [], ◌∷◌, length, get_or, Ok, Err, Result, sym, refl, ap, ◌∙◌, subst}
use Rattle.flash.specs.Card.{Card, is_good}
use Rattle.volume.specs.State.{Moves, Slot}
use Rattle.volume.specs.Pair.{Pair, fault}
use Rattle.volume.specs.Thread.{walk, thread}
use Rattle.volume.specs.Global.{is_root, is_superblock_name, is_inline, superblock_words, global_of, sync_of, Hiding, shows, hides, misses, wrong_bits, hiding_of}
use Rattle.volume.specs.Tree.{Entries}
use Rattle.volume.specs.Check.{Dir, dirs_from, Met, Scan, scan_dir, orphans_from, pair_blocks, Reading, settle, met_dirs, orphaned, check_tree, check_global, check_root, check_list, is_size, check}
use Rattle.volume.specs.Laws.{Agree, Frame}
use Rattle.volume.specs.declared.fault.Fault.{Fault}
use Rattle.volume.specs.declared.fault.What.TheVariants as what
use Rattle.volume.proofs.Lists.{no_answer, same_answer, Same, Shape, walk_same}
use Rattle.volume.proofs.ScanFrames.{dir_framed}

-- ---- the tree and the orphans

-- a reading comes from a tree that was read
pub record Read (rs : Scan Entries) (r : Reading) : Type 0 where
  pub x : Entries × Met
  pub is : rs ≡ Ok x
  pub used : r.used ≡ x.1.seen

settled : (ps : List Pair) (sync : Bool) (h : Hiding) (os : List Dir) (rs : Scan Entries) (r : Reading) → settle ps sync h os rs ≡ Ok r → Read rs r
settled ps sync h os (Err f) r e = absurd (no_answer f r e)
settled ps sync h os (Ok x) r e = record { x = x; is = refl; used = sym (ap (λ (v : Reading). v.used) (same_answer _ r e)) }

pub read_tree : (ps : List Pair) (sync : Bool) (h : Hiding) (os : List Dir) (rs : Scan Entries) (r : Reading) → orphaned ps sync h os rs ≡ Ok r → Read rs r
read_tree ps true h os rs r e = settled ps true h os rs r e
read_tree ps false h [] rs r e = settled ps false h [] rs r e
read_tree ps false h (d ∷ ds) (Ok x) r e = absurd (no_answer _ r e)
read_tree ps false h (d ∷ ds) (Err f) r e = absurd (no_answer f r e)

abbrev pub begin : List Pair → Met
begin ps = record { seen = pair_blocks ps; dirs = [] }

-- the tree is the same, and the list's blocks are among those used
tree_same : (c d : Card) (ps : List Pair) (sync : Bool) (h : Hiding) (r : Reading) → Shape c d → Same r.used c d → check_tree c ps sync h ≡ Ok r → (check_tree d ps sync h ≡ Ok r) × Same (pair_blocks ps) c d
tree_same c d ps sync h r s k e =
    let ds = dirs_from h 0 ps in
    let rc = scan_dir 8 c ds 0 (begin ps) in
    let rd = scan_dir 8 d ds 0 (begin ps) in
    let read = read_tree ps sync h (orphans_from 0 (met_dirs rc) ds) rc r e in
    let framed = dir_framed 8 c d s ds 0 (begin ps) in
    let all : Same read.x.1.seen c d = subst (λ l. Same l c d) read.used k in
    let same : rd ≡ rc = framed.same read.x read.is all ∙ sym read.is in
    (ap (λ v. orphaned ps sync h (orphans_from 0 (met_dirs v) ds) v) same ∙ e, λ x f. all x ((framed.grows read.x read.is).seen x f))

-- ---- the root and the global state

global_same : (c d : Card) (p : Pair) (ps : List Pair) (g : Moves) (h : Hiding) (r : Reading) → Shape c d → Same r.used c d → check_global c p ps g h ≡ Ok r → (check_global d p ps g h ≡ Ok r) × Same (pair_blocks ps) c d
global_same c d p ps g shows r s k e = tree_same c d ps (sync_of g) shows r s k e
global_same c d p ps g (hides t) r s k e = tree_same c d ps (sync_of g) (hides t) r s k e
global_same c d p ps g misses r s k e = absurd (no_answer _ r e)
global_same c d p ps g wrong_bits r s k e = absurd (no_answer _ r e)

is_root_same : (c d : Card) (es : List Slot) → d.size ≡ c.size → length d.blocks ≡ length c.blocks → is_root d es ≡ is_root c es
unfolding is_root
is_root_same c d [] p q = refl
is_root_same c d (x ∷ xs) p q = ap (λ n. is_superblock_name x.name && is_inline (superblock_words n (length d.blocks)) x.content) p ∙ ap (λ n. is_superblock_name x.name && is_inline (superblock_words c.size n) x.content) q

root_same : (c d : Card) (ps : List Pair) (r : Reading) → Agree r.used c d → check_root c ps ≡ Ok r → (check_root d ps ≡ Ok r) × Same (pair_blocks ps) c d
root_same c d [] r a e = absurd (no_answer _ r e)
root_same c d (p ∷ ps) r a e = by (is_root c p.state.entries) refl e
  where
    by : (v : Bool) → is_root c p.state.entries ≡ v → cond v (check_global c p (p ∷ ps) (global_of (p ∷ ps)) (hiding_of (p ∷ ps) (global_of (p ∷ ps)))) (Err (fault what.Superblock p.block 0)) ≡ Ok r → (check_root d (p ∷ ps) ≡ Ok r) × Same (pair_blocks (p ∷ ps)) c d
    by true t k =
        let s : Shape c d = record { size = a.size; good = a.good } in
        let below = global_same c d p (p ∷ ps) (global_of (p ∷ ps)) (hiding_of (p ∷ ps) (global_of (p ∷ ps))) r s a.same k in
        (ap (λ v. cond v (check_global d p (p ∷ ps) (global_of (p ∷ ps)) (hiding_of (p ∷ ps) (global_of (p ∷ ps)))) (Err (fault what.Superblock p.block 0))) (is_root_same c d p.state.entries a.size a.count ∙ t) ∙ below.0, below.1)
    by false t k = absurd (no_answer _ r k)

-- ---- the list

list_same : (c d : Card) (r : Reading) → Agree r.used c d → check_list c (thread c) ≡ Ok r → check_list d (thread d) ≡ Ok r
list_same c d r a e = by (thread c) refl e
  where
    by : (t : Result (List Pair) Fault) → thread c ≡ t → check_list c t ≡ Ok r → check_list d (thread d) ≡ Ok r
    by (Err f) h k = absurd (no_answer f r k)
    by (Ok ps) h k =
        let root = root_same c d ps r a k in
        let s : Shape c d = record { size = a.size; good = a.good } in
        let same : thread d ≡ Ok ps = ap (λ n. walk n d (0 ∷ 1 ∷ []) 0 1) a.count ∙ walk_same (length c.blocks) c d (0 ∷ 1 ∷ []) 0 1 ps s h root.1 in
        ap (check_list d) same ∙ root.0

-- ---- the whole

-- the tests before the list, over what they are of
abbrev pub tests : Bool → Bool → Bool → Bool → Result Reading Fault → Result Reading Fault
tests dark size good_0 good_1 r =
    cond dark (Err (fault what.Dark 0 0)) (cond size (cond good_0 (cond good_1 r (Err (fault what.RootBlock 1 0))) (Err (fault what.RootBlock 0 0))) (Err (fault what.Size 0 0)))

passed : (dark size good_0 good_1 : Bool) (t u : Result Reading Fault) (r : Reading) → (t ≡ Ok r → u ≡ Ok r) → tests dark size good_0 good_1 t ≡ Ok r → tests dark size good_0 good_1 u ≡ Ok r
passed true size g0 g1 t u r f e = absurd (no_answer _ r e)
passed false false g0 g1 t u r f e = absurd (no_answer _ r e)
passed false true false g1 t u r f e = absurd (no_answer _ r e)
passed false true true false t u r f e = absurd (no_answer _ r e)
passed false true true true t u r f e = f e

-- a card that is read passes all of them
pub passes : (dark size good_0 good_1 : Bool) (t : Result Reading Fault) (r : Reading) → tests dark size good_0 good_1 t ≡ Ok r → t ≡ Ok r
passes true size g0 g1 t r e = absurd (no_answer _ r e)
passes false false g0 g1 t r e = absurd (no_answer _ r e)
passes false true false g1 t r e = absurd (no_answer _ r e)
passes false true true false t r e = absurd (no_answer _ r e)
passes false true true true t r e = e

pub frame : Frame
unfolding check
frame c d r e a =
    let rest = passed c.dark (is_size c.size (length c.blocks)) (is_good c 0) (is_good c 1) (check_list c (thread c)) (check_list d (thread d)) r (list_same c d r a) e in
    ap (λ v. tests v (is_size d.size (length d.blocks)) (is_good d 0) (is_good d 1) (check_list d (thread d))) a.dark
    ∙ ap (λ n. tests c.dark (is_size n (length d.blocks)) (is_good d 0) (is_good d 1) (check_list d (thread d))) a.size
    ∙ ap (λ n. tests c.dark (is_size c.size n) (is_good d 0) (is_good d 1) (check_list d (thread d))) a.count
    ∙ ap (λ g. tests c.dark (is_size c.size (length c.blocks)) (get_or g 0 false) (get_or g 1 false) (check_list d (thread d))) a.good
    ∙ rest
