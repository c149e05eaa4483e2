-- The tree depends only on the blocks that were met when it was read.
use Rattle.std.proofs.Common.{◌≡◌, ℕ, zero, suc, Bool, true, false, cond, ◌&&◌, ◌||◌, eqb, List, [], ◌∷◌, ◌++◌, get_or, Some, None, Ok, Err, Option, sym, refl, ap, ◌∙◌, subst}
use Rattle.flash.specs.Card.{Card}
use Rattle.volume.specs.State as state
use Rattle.volume.specs.State.{Slot, Struct, pair, inline, skip}
use Rattle.volume.specs.Thread.{member}
use Rattle.volume.specs.Files.{file_blocks, file_bytes, file_fault}
use Rattle.volume.specs.Tree.{Name, Node, file, directory, Entries, none, entry}
use Rattle.volume.specs.Check.{Item, Dir, find_dir, items_at, Met, Scan, then, Fit, file_inline, file_skip, dir_pair, extra_superblock, unfit, fit_with, fit_of, content_fault, name_fault, refused, unless, entered, node_of, scan_items, scan_dir}
use Rattle.volume.specs.declared.fault.Fault.{Fault}
use Rattle.volume.specs.declared.fault.What.{What}
use Rattle.volume.specs.declared.fault.What.TheVariants as what
use Rattle.volume.proofs.Lists.{no_answer, same_answer, Same, Shape}
use Rattle.volume.proofs.FileFrames.{member_left, member_right, file_blocks_same, file_bytes_same, file_fault_same}

-- ---- one step after another

-- what a step came to, and what came of it
pub record Went {A B : Type 0} (r : Scan A) (f : A → Met → Scan B) (z : B × Met) : Type 0 where
  pub x : A
  pub met : Met
  pub first : r ≡ Ok (x, met)
  pub after : f x met ≡ Ok z

pub went : {A B : Type 0} (r : Scan A) (f : A → Met → Scan B) (z : B × Met) → then r f ≡ Ok z → Went r f z
went (Ok x) f z e = record { x = x.0; met = x.1; first = refl; after = e }
went (Err k) f z e = absurd (no_answer k z e)

pub fine : {A : Type 0} (block : ℕ) (w : Option What) (r : Scan A) (z : A × Met) → unless block w r ≡ Ok z → (w ≡ None) × (r ≡ Ok z)
fine block None r z e = (refl, e)
fine block (Some w) r z e = absurd (no_answer _ z e)

pub fine_back : {A : Type 0} (block : ℕ) (w : Option What) (r : Scan A) (z : A × Met) → w ≡ None → r ≡ Ok z → unless block w r ≡ Ok z
fine_back block w r z e f = ap (λ v. unless block v r) e ∙ f

pub went_back : {A B : Type 0} (r : Scan A) (f : A → Met → Scan B) (x : A) (met : Met) (z : B × Met) → r ≡ Ok (x, met) → f x met ≡ Ok z → then r f ≡ Ok z
went_back r f x met z e g = ap (λ k. then k f) e ∙ g

-- ---- what was met only grows

pub record Grows (m n : Met) : Type 0 where
  pub seen : (x : ℕ) → member x m.seen ≡ true → member x n.seen ≡ true

grows_same : (m : Met) → Grows m m
grows_same m = record { seen = λ x h. h }

grows_then : {l m n : Met} → Grows l m → Grows m n → Grows l n
grows_then p q = record { seen = λ x h. q.seen x (p.seen x h) }

-- reading one way on the card c, and another way on the card d, comes to the same where what was met is the same
pub record Framed {A : Type 0} (c d : Card) (m : Met) (on_c on_d : Scan A) : Type 0 where
  pub grows : (z : A × Met) → on_c ≡ Ok z → Grows m z.1
  pub same : (z : A × Met) → on_c ≡ Ok z → Same z.1.seen c d → on_d ≡ Ok z

-- two steps
framed_then : {A B : Type 0} (c d : Card) (m : Met) (r s : Scan A) (f g : A → Met → Scan B) → Framed c d m r s → ((x : A) (n : Met) → Framed c d n (f x n) (g x n)) → Framed c d m (then r f) (then s g)
framed_then c d m r s f g p q = record {
  grows = λ z e. let w = went r f z e in grows_then (p.grows (w.x, w.met) w.first) ((q w.x w.met).grows z w.after);
  same = λ z e k.
      let w = went r f z e in
      let later = q w.x w.met in
      went_back s g w.x w.met z (p.same (w.x, w.met) w.first (λ x h. k x ((later.grows z w.after).seen x h))) (later.same z w.after k);
}

-- an answer that asks nothing of the card
framed_answer : {A : Type 0} (c d : Card) (m : Met) (x : A) → Framed {A = A} c d m (Ok (x, m)) (Ok (x, m))
framed_answer {A = A} c d m x = record {
  grows = λ z e. subst (Grows m) (ap (λ (v : A × Met). v.1) (same_answer (x, m) z e)) (grows_same m);
  same = λ z e k. e;
}

-- a refusal is no answer
framed_refused : {A : Type 0} (c d : Card) (m : Met) (f : Fault) (s : Scan A) → Framed {A = A} c d m (Err f) s
framed_refused c d m f s = record { grows = λ z e. absurd (no_answer f z e); same = λ z e k. absurd (no_answer f z e) }

-- a test that is the same on both cards
framed_unless : {A : Type 0} (c d : Card) (m : Met) (block : ℕ) (w : Option What) (r s : Scan A) → Framed c d m r s → Framed c d m (unless block w r) (unless block w s)
framed_unless c d m block None r s p = p
framed_unless c d m block (Some w) r s p = framed_refused c d m _ _

-- a skip-list file that is met: its blocks are among what was met
abbrev pub met_file : Card → Name → ℕ → ℕ → Met → Scan (Name × Node)
met_file c n h size m = Ok ((n, file (file_bytes c h size)), record { seen = file_blocks c h size ++ m.seen; dirs = m.dirs })

file_blocks_met : (c d : Card) (n : Name) (h size : ℕ) (m : Met) (z : (Name × Node) × Met) → met_file c n h size m ≡ Ok z → Same z.1.seen c d → Same (file_blocks c h size) c d
file_blocks_met c d n h size m z e k x f =
    let seen : file_blocks c h size ++ m.seen ≡ z.1.seen = ap (λ (v : (Name × Node) × Met). v.1.seen) (same_answer _ z e) in
    k x (subst (λ l. member x l ≡ true) seen (member_left x (file_blocks c h size) m.seen f))

file_framed : (c d : Card) (s : Shape c d) (n : Name) (h size : ℕ) (m : Met) → Framed c d m (met_file c n h size m) (met_file d n h size m)
file_framed c d s n h size m = record {
  grows = λ z e. record {
    seen = λ x f.
        let seen : file_blocks c h size ++ m.seen ≡ z.1.seen = ap (λ (v : (Name × Node) × Met). v.1.seen) (same_answer _ z e) in
        subst (λ l. member x l ≡ true) seen (member_right x (file_blocks c h size) m.seen f);
  };
  same = λ z e k.
      let own = file_blocks_met c d n h size m z e k in
      let blocks = file_blocks_same c d h size s own in
      let content = file_bytes_same c d h size s own in
      ap (λ bs. Ok ((n, file (file_bytes d h size)), record { seen = bs ++ m.seen; dirs = m.dirs })) blocks
      ∙ ap (λ xs. Ok ((n, file xs), record { seen = file_blocks c h size ++ m.seen; dirs = m.dirs })) content ∙ e;
}

-- ---- an entry

module _ (c d : Card) (s : Shape c d) (ds : List Dir) (there here : ℕ → Met → Scan Entries) (below : (n : ℕ) (m : Met) → Framed c d m (there n m) (here n m)) where
  entered_framed : (block : ℕ) (o : Option ℕ) (m : Met) → Framed c d m (entered there block o m) (entered here block o m)
  entered_framed block None m = framed_refused c d m _ _
  entered_framed block (Some n) m = by (eqb n 0 || member n m.dirs)
    where
      by : (v : Bool) → Framed c d m (cond v (refused block what.Directory) (then (there n (record { seen = m.seen; dirs = n ∷ m.dirs })) (λ es met. Ok (directory es, met)))) (cond v (refused block what.Directory) (then (here n (record { seen = m.seen; dirs = n ∷ m.dirs })) (λ es met. Ok (directory es, met))))
      by true = framed_refused c d m _ _
      by false =
          let p = framed_then c d (record { seen = m.seen; dirs = n ∷ m.dirs }) (there n (record { seen = m.seen; dirs = n ∷ m.dirs })) (here n (record { seen = m.seen; dirs = n ∷ m.dirs })) (λ es met. Ok (directory es, met)) (λ es met. Ok (directory es, met)) (below n (record { seen = m.seen; dirs = n ∷ m.dirs })) (λ es met. framed_answer c d met (directory es)) in
          record { grows = λ z e. record { seen = (p.grows z e).seen }; same = p.same }

  -- the content of an entry that is of the tree
  node_framed : (deep : Bool) (last : Option Name) (block : ℕ) (f : Fit) (m : Met) → Framed c d m (node_of c ds there deep last block f m) (node_of d ds here deep last block f m)
  unfolding node_of
  node_framed deep last block (file_inline n xs) m = framed_unless c d m block (name_fault deep last n) _ _ (framed_answer c d m (n, file xs))
  node_framed deep last block (file_skip n h size) m = framed_unless c d m block (name_fault deep last n) _ _ (file_framed c d s n h size m)
  node_framed deep last block (dir_pair n a b) m =
      framed_unless c d m block (name_fault deep last n) _ _ (framed_then c d m _ _ _ _ (entered_framed block (find_dir 0 ds a b) m) (λ t met. framed_answer c d met (n, t)))
  node_framed deep last block extra_superblock m = framed_refused c d m _ _
  node_framed deep last block unfit m = framed_refused c d m _ _

  -- an entry with a skip list is a file, or none of the tree
  skip_met : (deep : Bool) (last : Option Name) (block : ℕ) (nm : Option state.Name) (h size : ℕ) (m : Met) (z : (Name × Node) × Met)
      → node_of c ds there deep last block (fit_of (record { name = nm; content = Some (skip h size) })) m ≡ Ok z → Same z.1.seen c d → Same (file_blocks c h size) c d
  unfolding node_of
  skip_met deep last block None h size m z e k = absurd (no_answer _ z e)
  skip_met deep last block (Some n) h size m z e k = by n.kind e
    where
      by : (q : state.Kind) → node_of c ds there deep last block (fit_with (record { kind = q; bytes = n.bytes }) (Some (skip h size))) m ≡ Ok z → Same (file_blocks c h size) c d
      by state.file f = file_blocks_met c d n.bytes h size m z (fine block (name_fault deep last n.bytes) (met_file c n.bytes h size m) z f).1 k
      by state.directory f = absurd (no_answer _ z f)
      by state.superblock f = absurd (no_answer _ z f)

  parts_framed : (deep : Bool) (last : Option Name) (block : ℕ) (nm : Option state.Name) (ct : Option Struct) (m : Met)
      → Framed c d m (unless block (content_fault c m.seen ct) (node_of c ds there deep last block (fit_of (record { name = nm; content = ct })) m))
      (unless block (content_fault d m.seen ct) (node_of d ds here deep last block (fit_of (record { name = nm; content = ct })) m))
  parts_framed deep last block nm None m = node_framed deep last block (fit_of (record { name = nm; content = None })) m
  parts_framed deep last block nm (Some (inline xs)) m = node_framed deep last block (fit_of (record { name = nm; content = Some (inline xs) })) m
  parts_framed deep last block nm (Some (pair a b)) m =
      let f = fit_of (record { name = nm; content = Some (pair a b) }) in
      let tests : content_fault d m.seen (Some (pair a b)) ≡ content_fault c m.seen (Some (pair a b)) = ap (λ g. cond (get_or g a false && get_or g b false) None (Some what.EntryBlock)) s.good in
      subst (λ w. Framed c d m (unless block (content_fault c m.seen (Some (pair a b))) (node_of c ds there deep last block f m)) (unless block w (node_of d ds here deep last block f m))) (sym tests)
      (framed_unless c d m block (content_fault c m.seen (Some (pair a b))) _ _ (node_framed deep last block f m))
  parts_framed deep last block nm (Some (skip h size)) m =
      let f = fit_of (record { name = nm; content = Some (skip h size) }) in
      let p = node_framed deep last block f m in
      let tests = file_fault c m.seen h size in
      record {
        grows = λ z e. p.grows z (fine block tests (node_of c ds there deep last block f m) z e).1;
        same = λ z e k.
            let both = fine block tests (node_of c ds there deep last block f m) z e in
            let own = skip_met deep last block nm h size m z both.1 k in
            fine_back block (file_fault d m.seen h size) (node_of d ds here deep last block f m) z (file_fault_same c d h size s own m.seen ∙ both.0) (p.same z both.1 k);
      }

  pub items_framed : (deep : Bool) (last : Option Name) (xs : List Item) (m : Met) → Framed c d m (scan_items c ds there deep last xs m) (scan_items d ds here deep last xs m)
  unfolding scan_items
  items_framed deep last [] m = framed_answer c d m none
  items_framed deep last (x ∷ xs) m =
      framed_then c d m _ _ _ _ (parts_framed deep last x.block x.slot.name x.slot.content m)
      (λ nt n. framed_then c d n _ _ _ _ (items_framed deep (Some nt.0) xs n) (λ es k. framed_answer c d k (entry nt.0 nt.1 es)))

-- ---- a directory

pub dir_framed : (depth : ℕ) (c d : Card) (s : Shape c d) (ds : List Dir) (n : ℕ) (m : Met) → Framed c d m (scan_dir depth c ds n m) (scan_dir depth d ds n m)
unfolding scan_dir
dir_framed zero c d s ds n m = items_framed c d s ds (λ _ met. Ok (none, met)) (λ _ met. Ok (none, met)) (λ k met. framed_answer c d met none) true None (items_at n ds) m
dir_framed (suc depth) c d s ds n m = items_framed c d s ds (scan_dir depth c ds) (scan_dir depth d ds) (λ k met. dir_framed depth c d s ds k met) false None (items_at n ds) m
