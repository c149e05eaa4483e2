-- The parts of a path between its slashes, one byte and one part after the other.
use Rattle.std.proofs.Common.{◌≡◌, ℕ, zero, suc, ◌+◌, ◌-◌, ◌<◌, ◌≤◌, min, Bool, true, false, cond, ◌&&◌, eqb, leb, List, [], ◌∷◌, ◌++◌, map, length, get_or, take, drop, set, replicate, Some, None, sym, refl, ap, ◌∙◌, subst, inl, inr, append_assoc, append-nil, arith}
use Rattle.std.proofs.lemmas.List.{at_drop_more, at_drop_all, take_more, take_more_set, take_all, drop_more, map_push, get_or-map, get_or-take, get_or-drop, length-drop, length-set, length-append, length-map, length-take-le}
use Rattle.std.proofs.lemmas.Bool.{eq-eqb, ne_eqb, lt-ltb, le-ltb, le-leb, lt-leb, and_from, and_parts, cases_lt}
use Rattle.volume.specs.Tree.{Name, is_name}
use Rattle.std.specs.List.{list_all}
use Rattle.volume.specs.Paths.{slash, split_from, named, path_of}
use Rattle.volume.specs.Parsed.{no_place, name_at, names_at, names_in, parts_behind, PartEnds, FoundNames}
use Rattle.volume.specs.declared.paths.Place.{Place}
use Rattle.volume.specs.declared.paths.PathNames.{PathNames}

-- ---- one part, byte by byte

-- what is left of a path is split, with a part begun at `start`
abbrev pub Begun : List ℕ → ℕ → ℕ → Type 0
Begun path start i = split_from [] (drop start path) ≡ split_from (name_at path (record { start = start; end = i })) (drop i path)

module _ (path : List ℕ) (start : ℕ) where
  pub part_begin : Begun path start start
  part_begin = let none : start - start ≡ 0 = omega arith in ap (λ n. split_from (take n (drop start path)) (drop start path)) (sym none)

  -- one byte more of the part
  name_more : (i : ℕ) → start ≤ i → i < length path → name_at path (record { start = start; end = i + 1 }) ≡ name_at path (record { start = start; end = i }) ++ get_or path i 0 ∷ []
  name_more i low within =
      let one : i + 1 - start ≡ (i - start) + 1 = omega arith in
      let at : start + (i - start) ≡ i = omega arith in
      ap (λ n. take n (drop start path)) one ∙ take_more (drop start path) (i - start) 0 (omega (arith, length-drop start path))
      ∙ ap (λ x. take (i - start) (drop start path) ++ x ∷ []) (get_or-drop start path (i - start) 0 ∙ ap (λ k. get_or path k 0) at)

  pub part_more : (i : ℕ) → start ≤ i → i < length path → (get_or path i 0 ≡ 47 → ⊥) → Begun path start i → Begun path start (i + 1)
  part_more i low within other e =
      let begun = name_at path (record { start = start; end = i }) in
      let next : split_from begun (drop i path) ≡ cond (eqb (get_or path i 0) slash) (begun ∷ split_from [] (drop (i + 1) path)) (split_from (begun ++ get_or path i 0 ∷ []) (drop (i + 1) path)) = at_drop_more (split_from begun) path i 0 within in
      e ∙ next ∙ ap (λ v. cond v (begun ∷ split_from [] (drop (i + 1) path)) (split_from (begun ++ get_or path i 0 ∷ []) (drop (i + 1) path))) (ne_eqb (get_or path i 0) slash other)
      ∙ ap (λ xs. split_from xs (drop (i + 1) path)) (sym (name_more i low within))

  -- a slash ends the part
  pub part_slash : (i : ℕ) → start ≤ i → i < length path → get_or path i 0 ≡ 47 → Begun path start i → PartEnds path start i
  part_slash i low within is e =
      let begun = name_at path (record { start = start; end = i }) in
      let next : split_from begun (drop i path) ≡ cond (eqb (get_or path i 0) slash) (begun ∷ split_from [] (drop (i + 1) path)) (split_from (begun ++ get_or path i 0 ∷ []) (drop (i + 1) path)) = at_drop_more (split_from begun) path i 0 within in
      record {
        low = low;
        high = omega arith;
        parts =
            e ∙ next ∙ ap (λ v. cond v (begun ∷ split_from [] (drop (i + 1) path)) (split_from (begun ++ get_or path i 0 ∷ []) (drop (i + 1) path))) (eq-eqb (get_or path i 0) slash is)
            ∙ ap (λ v. begun ∷ cond v (split_from [] (drop (i + 1) path)) []) (sym (lt-ltb i (length path) within));
      }

  -- and so does the end of the path
  pub part_last : (i : ℕ) → start ≤ i → i ≡ length path → Begun path start i → PartEnds path start i
  part_last i low is e =
      let begun = name_at path (record { start = start; end = i }) in
      let next : split_from begun (drop i path) ≡ begun ∷ [] = at_drop_all (split_from begun) path i (omega arith) in
      record { low = low; high = omega arith; parts = e ∙ next ∙ ap (λ v. begun ∷ cond v (split_from [] (drop (i + 1) path)) []) (sym (le-ltb i (length path) (omega arith))) }

-- ---- all parts, one after the other

-- the names of some places and one more
names_push : (path : List ℕ) (places : List Place) (count : ℕ) (p : Place) → count < length places → names_at path (set places count p) (count + 1) ≡ names_at path places count ++ name_at path p ∷ []
unfolding names_at
names_push path places count p h = ap (map (name_at path)) (take_more_set places count p h) ∙ map_push (name_at path) (take count places) p

pub length_names : (path : List ℕ) (places : List Place) (count : ℕ) → count ≤ length places → length (names_at path places count) ≡ count
unfolding names_at
length_names path places count h = length-map (take count places) (name_at path) ∙ length-take-le count places h

-- all of some names are names, and all of others, or one is not
all_append : (ns ms : List Name) → list_all is_name (ns ++ ms) ≡ (list_all is_name ns && list_all is_name ms)
all_append [] ms = refl
all_append (n ∷ ns) ms = ap (λ v. is_name n && v) (all_append ns ms) ∙ by (is_name n) (list_all is_name ns) (list_all is_name ms)
  where
    by : (u v w : Bool) → (u && (v && w)) ≡ ((u && v) && w)
    by true v w = refl
    by false v w = refl

-- The parts before `start` are names at places, and those behind it are left to split.
pub record SplitTo (path : List ℕ) (places : List Place) (count start : ℕ) : Type 0 where
  pub room : length places ≡ 8
  pub few : count ≤ 8
  pub within : start ≤ length path
  pub names : list_all is_name (names_at path places count) ≡ true
  pub parts : split_from [] (drop 1 path) ≡ names_at path places count ++ split_from [] (drop start path)

pub split_start : (path : List ℕ) → 1 ≤ length path → SplitTo path (replicate 8 no_place) 0 1
unfolding names_at
split_start path h = record { room = refl; few = omega arith; within = h; names = refl; parts = refl }

module _ (path : List ℕ) (places : List Place) (count start end : ℕ) (s : SplitTo path places count start) (p : PartEnds path start end) where
  abbrev here : Place
  here = record { start = start; end = end }

  -- all parts, the next of them by its place
  whole : split_from [] (drop 1 path) ≡ names_at path places count ++ name_at path here ∷ parts_behind path end
  whole = s.parts ∙ ap (λ ns. names_at path places count ++ ns) p.parts

  -- there are too many
  pub too_many : count ≡ 8 → named (split_from [] (drop 1 path)) ≡ None
  too_many full =
      let ns = split_from [] (drop 1 path) in
      let long : 8 < length ns = omega (arith, ap length whole, length-append (names_at path places count) (name_at path here ∷ parts_behind path end), length_names path places count (omega arith)) in
      ap (λ v. cond (list_all is_name ns && v) (Some ns) None) (lt-leb (length ns) 8 long) ∙ by (list_all is_name ns) ns
    where
      by : (v : Bool) (ns : List Name) → cond (v && false) (Some ns) None ≡ None
      by true ns = refl
      by false ns = refl

  -- the next is no name
  pub no_name : is_name (name_at path here) ≡ false → named (split_from [] (drop 1 path)) ≡ None
  no_name bad =
      let ns = split_from [] (drop 1 path) in
      let done = names_at path places count in
      let not_all : list_all is_name ns ≡ false =
      ap (list_all is_name) whole ∙ all_append done (name_at path here ∷ parts_behind path end)
      ∙ ap (λ v. list_all is_name done && (v && list_all is_name (parts_behind path end))) bad ∙ ap (λ v. v && false) s.names in
      ap (λ v. cond (v && leb (length ns) 8) (Some ns) None) not_all

  module _ (room : count < 8) (is : is_name (name_at path here) ≡ true) where
    -- the names so far and the next
    all_names_lem : list_all is_name (names_at path (set places count here) (count + 1)) ≡ true
    all_names_lem =
        ap (list_all is_name) (names_push path places count here (omega (arith, s.room))) ∙ all_append (names_at path places count) (name_at path here ∷ [])
        ∙ and_from (list_all is_name (names_at path places count)) (is_name (name_at path here) && true) s.names (and_from (is_name (name_at path here)) true is refl)

    parts_push : split_from [] (drop 1 path) ≡ names_at path (set places count here) (count + 1) ++ parts_behind path end
    parts_push =
        whole ∙ sym (append_assoc (names_at path places count) (name_at path here ∷ []) (parts_behind path end))
        ∙ ap (λ ns. ns ++ parts_behind path end) (sym (names_push path places count here (omega (arith, s.room))))

    -- there are more parts
    pub split_more : end < length path → SplitTo path (set places count here) (count + 1) (end + 1)
    split_more more = record {
      room = length-set places count here ∙ s.room;
      few = omega arith;
      within = omega arith;
      names = all_names_lem;
      parts = parts_push ∙ ap (λ v. names_at path (set places count here) (count + 1) ++ cond v (split_from [] (drop (end + 1) path)) []) (lt-ltb end (length path) more);
    }

    -- it was the last
    pub split_all : end ≡ length path → named (split_from [] (drop 1 path)) ≡ Some (names_at path (set places count here) (count + 1))
    split_all last =
        let ns = names_at path (set places count here) (count + 1) in
        let are : split_from [] (drop 1 path) ≡ ns =
        parts_push ∙ ap (λ v. ns ++ cond v (split_from [] (drop (end + 1) path)) []) (le-ltb end (length path) (omega arith)) ∙ append-nil ns in
        let few : length ns ≤ 8 = omega (arith, length_names path (set places count here) (count + 1) (omega (arith, length-set places count here, s.room))) in
        ap named are ∙ ap (λ v. cond (v && leb (length ns) 8) (Some ns) None) all_names_lem ∙ ap (λ v. cond v (Some ns) None) (le-leb (length ns) 8 few)

-- ---- a path by its first byte

-- without a first slash there is no path
pub no_path : (path : List ℕ) → (get_or path 0 0 ≡ 47 → ⊥) → path_of path ≡ None
unfolding path_of
no_path [] h = refl
no_path (x ∷ []) h = ap (λ v. cond v (Some []) None) (ne_eqb x slash h)
no_path (x ∷ y ∷ ys) h = ap (λ v. cond v (named (split_from [] (y ∷ ys))) None) (ne_eqb x slash h)

-- a slash alone has no names
pub no_names : (path : List ℕ) → length path ≡ 1 → get_or path 0 0 ≡ 47 → path_of path ≡ Some []
unfolding path_of
no_names [] l h = absurd (omega arith)
no_names (x ∷ []) l h = ap (λ v. cond v (Some []) None) (eq-eqb x slash h)
no_names (x ∷ y ∷ ys) l h = absurd (omega arith)

-- behind it stand the names
pub some_names : (path : List ℕ) → 1 < length path → get_or path 0 0 ≡ 47 → path_of path ≡ named (split_from [] (drop 1 path))
unfolding path_of
some_names [] l h = absurd (omega arith)
some_names (x ∷ []) l h = absurd (omega arith)
some_names (x ∷ y ∷ ys) l h = ap (λ v. cond v (named (split_from [] (y ∷ ys))) None) (eq-eqb x slash h)

-- ---- a name by its place

-- an end past the path's is as good as the path's
pub name_cut : (path : List ℕ) (p : Place) (end : ℕ) → end ≡ min p.end (length path) → name_at path p ≡ name_at path (record { start = p.start; end = end })
name_cut path p end is =
    elim (cases_lt p.end (length path)) [
      | inl h ↦ (let same : p.end ≡ end = omega arith in ap (λ n. take (n - p.start) (drop p.start path)) same)
      | inr h ↦
          take_all (p.end - p.start) (drop p.start path) (omega (arith, length-drop p.start path))
          ∙ sym (take_all (end - p.start) (drop p.start path) (omega (arith, length-drop p.start path)))
    ]

-- at a place that ends where it starts stands nothing
pub name_none : (path : List ℕ) (start end : ℕ) → end ≤ start → name_at path (record { start = start; end = end }) ≡ []
name_none path start end h = let none : end - start ≡ 0 = omega arith in ap (λ n. take n (drop start path)) none

-- ---- the names of a path that was parsed, one by one

-- a name of all is a name
all_at : (ns : List Name) (i : ℕ) → list_all is_name ns ≡ true → i < length ns → is_name (get_or ns i []) ≡ true
all_at [] i e h = absurd (omega arith)
all_at (n ∷ ns) zero e h = (and_parts (is_name n) (list_all is_name ns) e).0
all_at (n ∷ ns) (suc i) e h = all_at ns i (and_parts (is_name n) (list_all is_name ns) e).1 (omega arith)

-- a path has names only
named_all : (ns ms : List Name) → named ns ≡ Some ms → list_all is_name ms ≡ true
named_all ns ms e = by (list_all is_name ns) (leb (length ns) 8) refl e
  where
    by : (u v : Bool) → list_all is_name ns ≡ u → cond (u && v) (Some ns) None ≡ Some ms → list_all is_name ms ≡ true
    by false v h f = let bad : ◌≡◌ {A = ℕ} 0 1 = cc in absurd (omega arith)
    by true false h f = let bad : ◌≡◌ {A = ℕ} 0 1 = cc in absurd (omega arith)
    by true true h f = let is : ns ≡ ms = cc in subst (λ v. list_all is_name v ≡ true) is h

pub path_names : (path : List ℕ) (ns : List Name) → path_of path ≡ Some ns → list_all is_name ns ≡ true
unfolding path_of
path_names [] ns e = let bad : ◌≡◌ {A = ℕ} 0 1 = cc in absurd (omega arith)
path_names (x ∷ []) ns e = by (eqb x slash) e
  where
    by : (v : Bool) → cond v (Some []) None ≡ Some ns → list_all is_name ns ≡ true
    by true f = let is : [] ≡ ns = cc in subst (λ v. list_all is_name v ≡ true) is refl
    by false f = let bad : ◌≡◌ {A = ℕ} 0 1 = cc in absurd (omega arith)
path_names (x ∷ y ∷ ys) ns e = by (eqb x slash) e
  where
    by : (v : Bool) → cond v (named (split_from [] (y ∷ ys))) None ≡ Some ns → list_all is_name ns ≡ true
    by true f = named_all (split_from [] (y ∷ ys)) ns f
    by false f = let bad : ◌≡◌ {A = ℕ} 0 1 = cc in absurd (omega arith)

module _ (path : List ℕ) (ns : PathNames) (f : FoundNames path (path_of path) ns) where
  -- there are as many as were counted
  pub count_names : length (names_in path ns) ≡ ns.count
  count_names = length_names path ns.places ns.count (omega (arith, f.few, f.room))

  module _ (i : ℕ) (h : i < ns.count) where
    -- each stands at its place
    pub name_at_lem : get_or (names_in path ns) i [] ≡ name_at path (get_or ns.places i no_place)
    unfolding names_at
    name_at_lem =
        get_or-map (name_at path) (take ns.count ns.places) i no_place [] (omega (arith, f.few, f.room, length-take-le ns.count ns.places (omega (arith, f.few, f.room))))
        ∙ ap (name_at path) (get_or-take ns.count ns.places i no_place h)

    -- those from it on are it and those behind it
    pub drop_names : drop i (names_in path ns) ≡ name_at path (get_or ns.places i no_place) ∷ drop (i + 1) (names_in path ns)
    drop_names = drop_more (names_in path ns) i [] (omega (arith, count_names)) ∙ ap (λ n. n ∷ drop (i + 1) (names_in path ns)) name_at_lem

    -- and it is a name
    pub name_is_name : is_name (name_at path (get_or ns.places i no_place)) ≡ true
    name_is_name = ap is_name (sym name_at_lem) ∙ all_at (names_in path ns) i (path_names path (names_in path ns) f.are) (omega (arith, count_names))
