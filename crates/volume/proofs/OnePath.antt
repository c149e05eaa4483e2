-- Reading the tree meets each directory that a path leads to, and different paths lead to different ones.
use Rattle.std.proofs.Common.{◌≡◌, ℕ, zero, suc, Bool, true, false, cond, ◌||◌, eqb, ◌⊎◌, List, [], ◌∷◌, length, Some, None, Ok, Err, Option, Result, sym, refl, ap, ◌∙◌, subst, inl, inr, arith}
use Rattle.std.proofs.lemmas.Bool.{both_ways, or_cases, or_parts, or_left, or_right, eq-eqb, eqb-true, cases_Bool}
use Rattle.flash.specs.Card.{Card, is_good}
use Rattle.volume.specs.State.{Moves}
use Rattle.volume.specs.Pair.{Pair, fault}
use Rattle.volume.specs.Thread.{member, thread}
use Rattle.volume.specs.Global.{is_root, global_of, sync_of, Hiding, shows, hides, misses, wrong_bits, hiding_of}
use Rattle.volume.specs.Tree.{Name, before, named, is_name, Node, file, directory, Entries, none, entry}
use Rattle.volume.specs.Check.{Item, Dir, dirs_from, find_dir, items_at, Met, Scan, then, Fit, file_inline, file_skip, dir_pair, extra_superblock, unfit, fit_of, content_fault, follows, name_fault, refused, entered, node_of, scan_item, scan_items, scan_dir, orphans_from, Reading, settle, met_dirs, orphaned, check_tree, check_global, check_root, check_list, is_size, check}
use Rattle.volume.specs.Ways.{leads, step_in, onward, way, Reached}
use Rattle.volume.specs.Laws.{OnePath}
use Rattle.volume.specs.declared.fault.Fault.{Fault}
use Rattle.volume.specs.declared.fault.What.TheVariants as what
use Rattle.volume.proofs.Lists.{no_answer, same_answer, head_member, tail_member}
use Rattle.volume.proofs.ScanFrames.{went, fine, met_file}
use Rattle.volume.proofs.Frames.{begin, passes}
use Rattle.volume.proofs.Orders.{named_same, named_self, before_self, before_trans}

-- ---- ways and the directories that they lead to

-- a directory that a path leads to: among those met by now, none of those met before, and not the root
record Fresh (old now : List ℕ) (j : ℕ) : Type 0 where
  met : member j now ≡ true
  new : member j old ≡ false
  not_root : eqb j 0 ≡ false

-- Where `now` was made of `old`, what was added is just where paths lead, each to a directory of its own.
record Spread (old now : List ℕ) (to : List Name → Option ℕ) : Type 0 where
  grows : (j : ℕ) → member j old ≡ true → member j now ≡ true
  fresh : (p : List Name) (j : ℕ) → to p ≡ Some j → Fresh old now j
  once : (p q : List Name) (j : ℕ) → to p ≡ Some j → to q ≡ Some j → p ≡ q
  every : (j : ℕ) → member j now ≡ true → (member j old ≡ true) ⊎ ((p : List Name) × (to p ≡ Some j))

-- where no path leads anywhere, nothing is added
spread_none : (old : List ℕ) (to : List Name → Option ℕ) → ((p : List Name) → to p ≡ None) → Spread old old to
spread_none old to h = record {
  grows = λ j e. e;
  fresh = λ p j e. let none = h p in let bad : ◌≡◌ {A = ℕ} 0 1 = cc in absurd (omega arith);
  once = λ p q j e f. let none = h p in let bad : ◌≡◌ {A = ℕ} 0 1 = cc in absurd (omega arith);
  every = λ j e. inl e;
}

-- paths of two kinds, where what the first lead to was added before what the second lead to
spread_both : (old mid now : List ℕ) (f g to : List Name → Option ℕ) → Spread old mid f → Spread mid now g
    → ((p : List Name) (j : ℕ) → to p ≡ Some j → (f p ≡ Some j) ⊎ (g p ≡ Some j))
    → ((p : List Name) (j : ℕ) → f p ≡ Some j → to p ≡ Some j)
    → ((p : List Name) (j : ℕ) → g p ≡ Some j → to p ≡ Some j)
    → Spread old now to
spread_both old mid now f g to s t split left right = record {
  grows = λ j e. t.grows j (s.grows j e);
  fresh = λ p j e. elim (split p j e) [
    | inl h ↦ (let k = s.fresh p j h in record { met = t.grows j k.met; new = k.new; not_root = k.not_root })
    | inr h ↦ (let k = t.fresh p j h in record { met = k.met; new = not_before j k.new; not_root = k.not_root })
  ];
  once = λ p q j e e'. elim (split p j e) [
    | inl h ↦ elim (split q j e') [ inl h' ↦ s.once p q j h h' | inr h' ↦ absurd (apart p q j h h') ]
    | inr h ↦ elim (split q j e') [ inl h' ↦ absurd (apart q p j h' h) | inr h' ↦ t.once p q j h h' ]
  ];
  every = λ j e. elim (t.every j e) [
    | inl h ↦ elim (s.every j h) [ inl k ↦ inl k | inr k ↦ inr (k.0, left k.0 j k.1) ]
    | inr h ↦ inr (h.0, right h.0 j h.1)
  ];
}
  where
    not_before : (j : ℕ) → member j mid ≡ false → member j old ≡ false
    not_before j e = elim (cases_Bool (member j old)) [ inl h ↦ absurd (both_ways (member j mid) e (s.grows j h)) | inr h ↦ h ]

    apart : (p q : List Name) (j : ℕ) → f p ≡ Some j → g q ≡ Some j → ⊥
    apart p q j h h' = both_ways (member j mid) (t.fresh q j h').new (s.fresh p j h).met

-- ---- the paths from a directory, from some entries, and from one entry

-- where the paths lead that begin with one of some entries
in_items : List Dir → List Item → List Name → Option ℕ
in_items ds xs [] = None
in_items ds xs (n ∷ p) = onward (step_in ds xs n) (λ j. way ds j p)

-- where the paths lead that begin with one entry
in_fit : List Dir → Fit → List Name → Option ℕ
in_fit ds f [] = None
in_fit ds f (n ∷ p) = onward (leads ds n f None) (λ j. way ds j p)

-- a path that begins with an entry of a directory is one from that directory
entry_way : (ds : List Dir) (k : ℕ) (p : List Name) (j : ℕ) → in_items ds (items_at k ds) p ≡ Some j → way ds k p ≡ Some j
unfolding in_items
entry_way ds k [] j e = let bad : ◌≡◌ {A = ℕ} 0 1 = cc in absurd (omega arith)
entry_way ds k (n ∷ p) j e = e

-- the paths from a directory that is new are the empty one, and those that begin with one of its entries
spread_directory : (ds : List Dir) (k : ℕ) (old now : List ℕ) → eqb k 0 ≡ false → member k old ≡ false → Spread (k ∷ old) now (in_items ds (items_at k ds)) → Spread old now (way ds k)
unfolding in_items
spread_directory ds k old now z new s = record {
  grows = λ j e. s.grows j (tail_member j k old e);
  fresh = fresh_way;
  once = once_way;
  every = λ j e. elim (s.every j e) [
    | inl h ↦ elim (or_cases (eqb j k) (member j old) h) [ inl q ↦ inr ([], ap Some (sym (eqb-true j k q))) | inr q ↦ inl q ]
    | inr h ↦ inr (h.0, entry_way ds k h.0 j h.1)
  ];
}
  where
    fresh_way : (p : List Name) (j : ℕ) → way ds k p ≡ Some j → Fresh old now j
    fresh_way [] j e =
        let is : k ≡ j = cc in
        subst (Fresh old now) is (record { met = s.grows k (head_member k old); new = new; not_root = z })
    fresh_way (n ∷ p) j e = let f = s.fresh (n ∷ p) j e in record { met = f.met; new = (or_parts (eqb j k) (member j old) f.new).1; not_root = f.not_root }

    not_here : (n : Name) (p : List Name) → way ds k (n ∷ p) ≡ Some k → ⊥
    not_here n p e = both_ways (member k (k ∷ old)) (s.fresh (n ∷ p) k e).new (head_member k old)

    once_way : (p q : List Name) (j : ℕ) → way ds k p ≡ Some j → way ds k q ≡ Some j → p ≡ q
    once_way [] [] j e f = refl
    once_way [] (n ∷ q) j e f = absurd (not_here n q (f ∙ sym e))
    once_way (n ∷ p) [] j e f = absurd (not_here n p (e ∙ sym f))
    once_way (n ∷ p) (m ∷ q) j e f = s.once (n ∷ p) (m ∷ q) j e f

-- a path that begins with a name, and goes on with one that leads somewhere
record Through (n : Name) (to : List Name → Option ℕ) (p : List Name) (j : ℕ) : Type 0 where
  rest : List Name
  is : p ≡ n ∷ rest
  there : to rest ≡ Some j

-- an entry that names a directory of the list
module _ (ds : List Dir) (n : Name) (a b k : ℕ) (found : find_dir 0 ds a b ≡ Some k) where
  -- a path that begins with it has its name, and goes on from the directory
  through : (p : List Name) (j : ℕ) → in_fit ds (dir_pair n a b) p ≡ Some j → Through n (way ds k) p j
  unfolding in_fit
  through [] j e = let bad : ◌≡◌ {A = ℕ} 0 1 = cc in absurd (omega arith)
  through (m ∷ q) j e = by (named m n) refl e
    where
      by : (v : Bool) → named m n ≡ v → onward (cond v (find_dir 0 ds a b) None) (λ i. way ds i q) ≡ Some j → Through n (way ds k) (m ∷ q) j
      by true h f = record { rest = q; is = ap (λ v. v ∷ q) (named_same m n h); there = ap (λ o. onward o (λ i. way ds i q)) (sym found) ∙ f }
      by false h f = let bad : ◌≡◌ {A = ℕ} 0 1 = cc in absurd (omega arith)

  -- its name leads to the directory
  through_back : (q : List Name) (j : ℕ) → way ds k q ≡ Some j → in_fit ds (dir_pair n a b) (n ∷ q) ≡ Some j
  unfolding in_fit
  through_back q j e = ap (λ v. onward (cond v (find_dir 0 ds a b) None) (λ i. way ds i q)) (named_self n) ∙ ap (λ o. onward o (λ i. way ds i q)) found ∙ e

  -- what the paths from the directory add, the paths that begin with the entry do
  spread_entry : (old now : List ℕ) → Spread old now (way ds k) → Spread old now (in_fit ds (dir_pair n a b))
  spread_entry old now s = record {
    grows = s.grows;
    fresh = λ p j e. let t = through p j e in s.fresh t.rest j t.there;
    once = λ p q j e f. let t = through p j e in let u = through q j f in t.is ∙ ap (λ v. n ∷ v) (s.once t.rest u.rest j t.there u.there) ∙ sym u.is;
    every = λ j e. elim (s.every j e) [ inl h ↦ inl h | inr h ↦ inr (n ∷ h.0, through_back h.0 j h.1) ];
  }

-- where an entry and those behind it lead, the entry does, or those behind it do
leads_cases : (ds : List Dir) (n : Name) (f : Fit) (rest : Option ℕ) (go : ℕ → Option ℕ) (j : ℕ) → onward (leads ds n f rest) go ≡ Some j → (onward (leads ds n f None) go ≡ Some j) ⊎ (onward rest go ≡ Some j)
leads_cases ds n (dir_pair k a b) rest go j e = by (named n k) e
  where
    by : (v : Bool) → onward (cond v (find_dir 0 ds a b) rest) go ≡ Some j → (onward (cond v (find_dir 0 ds a b) None) go ≡ Some j) ⊎ (onward rest go ≡ Some j)
    by true h = inl h
    by false h = inr h
leads_cases ds n (file_inline k xs) rest go j e = inr e
leads_cases ds n (file_skip k h size) rest go j e = inr e
leads_cases ds n extra_superblock rest go j e = inr e
leads_cases ds n unfit rest go j e = inr e

-- where an entry leads, it does whatever comes behind it
leads_first : (ds : List Dir) (n : Name) (f : Fit) (rest : Option ℕ) (go : ℕ → Option ℕ) (j : ℕ) → onward (leads ds n f None) go ≡ Some j → onward (leads ds n f rest) go ≡ Some j
leads_first ds n (dir_pair k a b) rest go j e = by (named n k) e
  where
    by : (v : Bool) → onward (cond v (find_dir 0 ds a b) None) go ≡ Some j → onward (cond v (find_dir 0 ds a b) rest) go ≡ Some j
    by true h = h
    by false h = let bad : ◌≡◌ {A = ℕ} 0 1 = cc in absurd (omega arith)
leads_first ds n (file_inline k xs) rest go j e = let bad : ◌≡◌ {A = ℕ} 0 1 = cc in absurd (omega arith)
leads_first ds n (file_skip k h size) rest go j e = let bad : ◌≡◌ {A = ℕ} 0 1 = cc in absurd (omega arith)
leads_first ds n extra_superblock rest go j e = let bad : ◌≡◌ {A = ℕ} 0 1 = cc in absurd (omega arith)
leads_first ds n unfit rest go j e = let bad : ◌≡◌ {A = ℕ} 0 1 = cc in absurd (omega arith)

-- ---- an entry that is read

-- a name with no fault follows the one before it, and is not too deep
pub name_fine : (deep : Bool) (last : Option Name) (n : Name) → name_fault deep last n ≡ None → (follows last n ≡ true) × (deep ≡ false)
name_fine deep last n e = by (follows last n) (is_name n) deep e
  where
    by : (u v w : Bool) → cond u (cond v (cond w (Some what.Depth) None) (Some what.Name)) (Some what.NameOrder) ≡ None → (u ≡ true) × (w ≡ false)
    by false v w k = let bad : ◌≡◌ {A = ℕ} 0 1 = cc in absurd (omega arith)
    by true false w k = let bad : ◌≡◌ {A = ℕ} 0 1 = cc in absurd (omega arith)
    by true true true k = let bad : ◌≡◌ {A = ℕ} 0 1 = cc in absurd (omega arith)
    by true true false k = (refl, refl)

-- what follows a name follows the one before it
follows_trans : (last : Option Name) (m n : Name) → follows last m ≡ true → before m n ≡ true → follows last n ≡ true
follows_trans None m n p q = refl
follows_trans (Some l) m n p q = before_trans l m n p q

-- a name behind another is not that one
not_named : (m n : Name) → before m n ≡ true → named n m ≡ false
not_named m n h = elim (cases_Bool (named n m)) [ inl e ↦ absurd (both_ways (before m m) (before_self m) (subst (λ v. before m v ≡ true) (named_same n m e) h)) | inr e ↦ e ]

-- an entry that was read under a name: what its paths add, and that it stands in the way of no name behind it
record Placed (ds : List Dir) (last : Option Name) (f : Fit) (n : Name) (old now : List ℕ) : Type 0 where
  spread : Spread old now (in_fit ds f)
  follow : follows last n ≡ true
  own : (m : Name) (p : List Name) (j : ℕ) → in_fit ds f (m ∷ p) ≡ Some j → m ≡ n
  lets : (m : Name) (rest : Option ℕ) → before n m ≡ true → leads ds m f rest ≡ rest

-- an entry that is no directory
placed_file : (ds : List Dir) (last : Option Name) (f : Fit) (n : Name) (old : List ℕ) → ((m : Name) (rest : Option ℕ) → leads ds m f rest ≡ rest) → follows last n ≡ true → Placed ds last f n old old
unfolding in_fit
placed_file ds last f n old quiet h = record {
  spread = spread_none old (in_fit ds f) nowhere;
  follow = h;
  own = λ m p j e. let none = nowhere (m ∷ p) in let bad : ◌≡◌ {A = ℕ} 0 1 = cc in absurd (omega arith);
  lets = λ m rest e. quiet m rest;
}
  where
    nowhere : (p : List Name) → in_fit ds f p ≡ None
    nowhere [] = refl
    nowhere (m ∷ p) = ap (λ o. onward o (λ j. way ds j p)) (quiet m None)

-- an entry that names a directory of the list
placed_directory : (ds : List Dir) (last : Option Name) (n : Name) (a b k : ℕ) (old now : List ℕ) → find_dir 0 ds a b ≡ Some k → Spread old now (way ds k) → follows last n ≡ true → Placed ds last (dir_pair n a b) n old now
placed_directory ds last n a b k old now found s h = record {
  spread = spread_entry ds n a b k found old now s;
  follow = h;
  own = λ m p j e. let t = through ds n a b k found (m ∷ p) j e in let is = t.is in cc;
  lets = λ m rest e. ap (λ v. cond v (find_dir 0 ds a b) rest) (not_named n m e);
}

-- a directory that was entered: one of the list, new, and its entries were read
pub record Inside (enter : ℕ → Met → Scan Entries) (o : Option ℕ) (m : Met) (z : Node × Met) : Type 0 where
  pub k : ℕ
  pub found : o ≡ Some k
  pub not_root : eqb k 0 ≡ false
  pub new : member k m.dirs ≡ false
  pub es : Entries
  pub is : z.0 ≡ directory es
  pub read : enter k (record { seen = m.seen; dirs = k ∷ m.dirs }) ≡ Ok (es, z.1)

-- an entry that was entered leads to such a directory
pub went_in : (enter : ℕ → Met → Scan Entries) (block : ℕ) (o : Option ℕ) (m : Met) (z : Node × Met) → entered enter block o m ≡ Ok z → Inside enter o m z
went_in enter block None m z e = absurd (no_answer _ z e)
went_in enter block (Some k) m z e = by (eqb k 0 || member k m.dirs) refl e
  where
    by : (v : Bool) → (eqb k 0 || member k m.dirs) ≡ v → cond v (refused block what.Directory) (then (enter k (record { seen = m.seen; dirs = k ∷ m.dirs })) (λ es met. Ok (directory es, met))) ≡ Ok z → Inside enter (Some k) m z
    by true h f = absurd (no_answer _ z f)
    by false h f =
        let both = or_parts (eqb k 0) (member k m.dirs) h in
        let w = went (enter k (record { seen = m.seen; dirs = k ∷ m.dirs })) (λ es met. Ok (directory es, met)) z f in
        let same : w.met ≡ z.1 = ap (λ (v : Node × Met). v.1) (same_answer _ z w.after) in
        record { k = k; found = refl; not_root = both.0; new = both.1; es = w.x; is = sym (ap (λ (v : Node × Met). v.0) (same_answer _ z w.after)); read = w.first ∙ ap (λ n. Ok (w.x, n)) same }

-- what is known of a function that reads directories
abbrev Reads : List Dir → (ℕ → Met → Scan Entries) → Type 0
Reads ds enter = (k : ℕ) (m : Met) (z : Entries × Met) → enter k m ≡ Ok z → Spread m.dirs z.1.dirs (in_items ds (items_at k ds))

-- the entries of a directory that were read behind a name: what their paths add, and that their names follow it
record Listed (ds : List Dir) (last : Option Name) (xs : List Item) (old now : List ℕ) : Type 0 where
  spread : Spread old now (in_items ds xs)
  behind : (n : Name) (p : List Name) (j : ℕ) → in_items ds xs (n ∷ p) ≡ Some j → follows last n ≡ true

-- no entries
listed_none : (ds : List Dir) (last : Option Name) (old : List ℕ) → Listed ds last [] old old
unfolding in_items
listed_none ds last old = record { spread = spread_none old (in_items ds []) nowhere; behind = λ n p j e. let bad : ◌≡◌ {A = ℕ} 0 1 = cc in absurd (omega arith) }
  where
    nowhere : (p : List Name) → in_items ds [] p ≡ None
    nowhere [] = refl
    nowhere (n ∷ p) = refl

-- an entry in front of others
listed_entry : (ds : List Dir) (last : Option Name) (x : Item) (xs : List Item) (n : Name) (old mid now : List ℕ) → Placed ds last (fit_of x.slot) n old mid → Listed ds (Some n) xs mid now → Listed ds last (x ∷ xs) old now
unfolding in_items in_fit
listed_entry ds last x xs n old mid now s t = record {
  spread = spread_both old mid now (in_fit ds (fit_of x.slot)) (in_items ds xs) (in_items ds (x ∷ xs)) s.spread t.spread split left right;
  behind = λ m p j e. elim (split (m ∷ p) j e) [
    | inl h ↦ subst (λ v. follows last v ≡ true) (sym (s.own m p j h)) s.follow
    | inr h ↦ follows_trans last n m s.follow (t.behind m p j h)
  ];
}
  where
    split : (p : List Name) (j : ℕ) → in_items ds (x ∷ xs) p ≡ Some j → (in_fit ds (fit_of x.slot) p ≡ Some j) ⊎ (in_items ds xs p ≡ Some j)
    split [] j e = inl e
    split (m ∷ p) j e = leads_cases ds m (fit_of x.slot) (step_in ds xs m) (λ i. way ds i p) j e

    left : (p : List Name) (j : ℕ) → in_fit ds (fit_of x.slot) p ≡ Some j → in_items ds (x ∷ xs) p ≡ Some j
    left [] j e = e
    left (m ∷ p) j e = leads_first ds m (fit_of x.slot) (step_in ds xs m) (λ i. way ds i p) j e

    right : (p : List Name) (j : ℕ) → in_items ds xs p ≡ Some j → in_items ds (x ∷ xs) p ≡ Some j
    right [] j e = e
    right (m ∷ p) j e = ap (λ o. onward o (λ i. way ds i p)) (s.lets m (step_in ds xs m) (t.behind m p j e)) ∙ e

module _ (c : Card) (ds : List Dir) (enter : ℕ → Met → Scan Entries) (deep : Bool) (below : deep ≡ false → Reads ds enter) where
  -- an entry that is of the tree
  node_placed : (last : Option Name) (block : ℕ) (f : Fit) (m : Met) (z : (Name × Node) × Met) → node_of c ds enter deep last block f m ≡ Ok z → Placed ds last f z.0.0 m.dirs z.1.dirs
  unfolding node_of
  node_placed last block (file_inline n xs) m z e =
      let both = fine block (name_fault deep last n) (Ok ((n, file xs), m)) z e in
      subst (λ (v : (Name × Node) × Met). Placed ds last (file_inline n xs) v.0.0 m.dirs v.1.dirs) (same_answer _ z both.1)
      (placed_file ds last (file_inline n xs) n m.dirs (λ k rest. refl) (name_fine deep last n both.0).0)
  node_placed last block (file_skip n h size) m z e =
      let both = fine block (name_fault deep last n) (met_file c n h size m) z e in
      subst (λ (v : (Name × Node) × Met). Placed ds last (file_skip n h size) v.0.0 m.dirs v.1.dirs) (same_answer _ z both.1)
      (placed_file ds last (file_skip n h size) n m.dirs (λ k rest. refl) (name_fine deep last n both.0).0)
  node_placed last block (dir_pair n a b) m z e =
      let both = fine block (name_fault deep last n) (then (entered enter block (find_dir 0 ds a b) m) (λ t met. Ok ((n, t), met))) z e in
      let name = name_fine deep last n both.0 in
      let w = went (entered enter block (find_dir 0 ds a b) m) (λ t met. Ok ((n, t), met)) z both.1 in
      let d = went_in enter block (find_dir 0 ds a b) m (w.x, w.met) w.first in
      let inside = below name.1 d.k (record { seen = m.seen; dirs = d.k ∷ m.dirs }) (d.es, w.met) d.read in
      let s = spread_directory ds d.k m.dirs w.met.dirs d.not_root d.new inside in
      subst (λ (v : (Name × Node) × Met). Placed ds last (dir_pair n a b) v.0.0 m.dirs v.1.dirs) (same_answer _ z w.after)
      (placed_directory ds last n a b d.k m.dirs w.met.dirs d.found s name.0)
  node_placed last block extra_superblock m z e = absurd (no_answer _ z e)
  node_placed last block unfit m z e = absurd (no_answer _ z e)

  -- the entries of a directory, one after the other
  items_listed : (last : Option Name) (xs : List Item) (m : Met) (z : Entries × Met) → scan_items c ds enter deep last xs m ≡ Ok z → Listed ds last xs m.dirs z.1.dirs
  unfolding scan_items
  items_listed last [] m z e = subst (λ (v : Entries × Met). Listed ds last [] m.dirs v.1.dirs) (same_answer _ z e) (listed_none ds last m.dirs)
  items_listed last (x ∷ xs) m z e =
      let w = went (scan_item c ds enter deep last x m) (λ nt met. then (scan_items c ds enter deep (Some nt.0) xs met) (λ es met. Ok (entry nt.0 nt.1 es, met))) z e in
      let n = w.x.0 in
      let u = went (scan_items c ds enter deep (Some n) xs w.met) (λ es met. Ok (entry n w.x.1 es, met)) z w.after in
      let own = (fine x.block (content_fault c m.seen x.slot.content) (node_of c ds enter deep last x.block (fit_of x.slot) m) (w.x, w.met) w.first).1 in
      let here = node_placed last x.block (fit_of x.slot) m (w.x, w.met) own in
      let rest = items_listed (Some n) xs w.met (u.x, u.met) u.first in
      subst (λ (v : Entries × Met). Listed ds last (x ∷ xs) m.dirs v.1.dirs) (same_answer _ z u.after) (listed_entry ds last x xs n m.dirs w.met.dirs u.met.dirs here rest)

-- a directory that was read; at the last depth it has no entries
dir_spread : (depth : ℕ) (c : Card) (ds : List Dir) → Reads ds (scan_dir depth c ds)
unfolding scan_dir
dir_spread zero c ds k m z e = (items_listed c ds (λ _ met. Ok (none, met)) true (λ h. let bad : ◌≡◌ {A = ℕ} 0 1 = cc in absurd (omega arith)) None (items_at k ds) m z e).spread
dir_spread (suc depth) c ds k m z e = (items_listed c ds (scan_dir depth c ds) false (λ h. dir_spread depth c ds) None (items_at k ds) m z e).spread

-- ---- the whole

-- the paths from the root: the empty one, and those that begin with one of its entries
module _ (ds : List Dir) (now : List ℕ) (s : Spread [] now (in_items ds (items_at 0 ds))) where
  -- a path with a name in it does not lead to the root
  not_the_root : (n : Name) (p : List Name) → way ds 0 (n ∷ p) ≡ Some 0 → ⊥
  unfolding in_items
  not_the_root n p e = both_ways (eqb 0 0) (s.fresh (n ∷ p) 0 e).not_root refl

  -- no two paths lead to one directory
  root_once : (k : ℕ) (p q : List Name) → way ds 0 p ≡ Some k → way ds 0 q ≡ Some k → p ≡ q
  unfolding in_items
  root_once k [] [] e f = refl
  root_once k [] (n ∷ q) e f = absurd (not_the_root n q (f ∙ sym e))
  root_once k (n ∷ p) [] e f = absurd (not_the_root n p (e ∙ sym f))
  root_once k (n ∷ p) (m ∷ q) e f = s.once (n ∷ p) (m ∷ q) k e f

  -- some path leads to the root, and to each directory that was met
  root_path : (k : ℕ) → (eqb k 0 || member k now) ≡ true → (p : List Name) × (way ds 0 p ≡ Some k)
  root_path k e = elim (or_cases (eqb k 0) (member k now) e) [
    | inl h ↦ ([], ap Some (sym (eqb-true k 0 h)))
    | inr h ↦ elim (s.every k h) [ inl f ↦ (let bad : ◌≡◌ {A = ℕ} 0 1 = cc in absurd (omega arith)) | inr f ↦ (f.0, entry_way ds 0 f.0 k f.1) ]
  ]

  -- each path leads to the root, or to a directory that was met
  root_only : (k : ℕ) (p : List Name) → way ds 0 p ≡ Some k → (eqb k 0 || member k now) ≡ true
  unfolding in_items
  root_only k [] e = or_left (eqb k 0) (member k now) (eq-eqb k 0 (cc))
  root_only k (n ∷ p) e = or_right (eqb k 0) (member k now) (s.fresh (n ∷ p) k e).met

-- a reading is made of the tree that was read
pub record Settled (ps : List Pair) (sync : Bool) (h : Hiding) (os : List Dir) (rs : Scan Entries) (r : Reading) : Type 0 where
  pub x : Entries × Met
  pub is : rs ≡ Ok x
  pub made : record { tree = directory x.0; pairs = ps; sync = sync; hiding = h; orphans = os; used = x.1.seen } ≡ r

-- with the tree and its orphans at hand
settled : (ps : List Pair) (sync : Bool) (h : Hiding) (os : List Dir) (rs : Scan Entries) (r : Reading) → settle ps sync h os rs ≡ Ok r → Settled ps sync h os rs r
settled ps sync h os (Err f) r e = absurd (no_answer f r e)
settled ps sync h os (Ok x) r e = record { x = x; is = refl; made = same_answer _ r e }

-- with the tree at hand, after the orphans were judged
pub tree_settled : (ps : List Pair) (sync : Bool) (h : Hiding) (os : List Dir) (rs : Scan Entries) (r : Reading) → orphaned ps sync h os rs ≡ Ok r → Settled ps sync h os rs r
tree_settled ps true h os rs r e = settled ps true h os rs r e
tree_settled ps false h [] rs r e = settled ps false h [] rs r e
tree_settled ps false h (d ∷ ds) (Ok x) r e = absurd (no_answer _ r e)
tree_settled ps false h (d ∷ ds) (Err f) r e = absurd (no_answer f r e)

-- the directories of a tree that was read
tree_reached : (c : Card) (ps : List Pair) (sync : Bool) (h : Hiding) (r : Reading) → check_tree c ps sync h ≡ Ok r → Reached r
tree_reached c ps sync h r e =
    let ds = dirs_from h 0 ps in
    let rc = scan_dir 8 c ds 0 (begin ps) in
    let read = tree_settled ps sync h (orphans_from 0 (met_dirs rc) ds) rc r e in
    let now = read.x.1.dirs in
    let s = dir_spread 8 c ds 0 (begin ps) read.x read.is in
    subst Reached read.made (record {
      once = root_once ds now s;
      below = now;
      orphans = ap (λ v. orphans_from 0 (met_dirs v) ds) read.is;
      path = root_path ds now s;
      only = root_only ds now s;
    })

-- after the global state
global_reached : (c : Card) (p : Pair) (ps : List Pair) (g : Moves) (h : Hiding) (r : Reading) → check_global c p ps g h ≡ Ok r → Reached r
global_reached c p ps g shows r e = tree_reached c ps (sync_of g) shows r e
global_reached c p ps g (hides t) r e = tree_reached c ps (sync_of g) (hides t) r e
global_reached c p ps g misses r e = absurd (no_answer _ r e)
global_reached c p ps g wrong_bits r e = absurd (no_answer _ r e)

-- after the root
root_reached : (c : Card) (ps : List Pair) (r : Reading) → check_root c ps ≡ Ok r → Reached r
root_reached c [] r e = absurd (no_answer _ r e)
root_reached c (p ∷ ps) r e = by (is_root c p.state.entries) e
  where
    by : (v : Bool) → cond v (check_global c p (p ∷ ps) (global_of (p ∷ ps)) (hiding_of (p ∷ ps) (global_of (p ∷ ps)))) (Err (fault what.Superblock p.block 0)) ≡ Ok r → Reached r
    by true k = global_reached c p (p ∷ ps) (global_of (p ∷ ps)) (hiding_of (p ∷ ps) (global_of (p ∷ ps))) r k
    by false k = absurd (no_answer _ r k)

-- after the list of pairs
list_reached : (c : Card) (t : Result (List Pair) Fault) (r : Reading) → check_list c t ≡ Ok r → Reached r
list_reached c (Err f) r e = absurd (no_answer f r e)
list_reached c (Ok ps) r e = root_reached c ps r e

-- THE LAW: each directory is reached by one path
pub one_path : OnePath
unfolding check
one_path c r e = list_reached c (thread c) r (passes c.dark (is_size c.size (length c.blocks)) (is_good c 0) (is_good c 1) (check_list c (thread c)) r e)
