-- What one turn of the loop that makes a table keeps: what is still to be read makes the whole of what the table stands for.
use Rattle.std.proofs.Common.{◌≡◌, ℕ, suc, ◌+◌, ◌-◌, ◌/◌, ◌<◌, ◌≤◌, max, true, false, eqb, ltb, List, [], ◌∷◌, ◌++◌, length, take, drop, Some, None, Ok, Err, Result, sym, refl, ap, ◌∙◌, arith, length-drop, length-take}
use Rattle.std.specs.Result.{is_ok}
use Rattle.std.proofs.lemmas.List.{drop-append-le, take-append-le}
use Rattle.std.proofs.lemmas.Bool.{cond-true, cond-false, eq-eqb, ne_eqb, le-ltb}
use Rattle.metalog.specs.Tag.{id_of, length_of}
use Rattle.metalog.specs.Crc.{crc_of}
use Rattle.metalog.specs.Log as log
use Rattle.metalog.specs.Log.{Entry, End, Item, held, ended, Cursor, at, nowhere, Step, step, part, items, items_of, commits_of, seed, first_prior}
use Rattle.metalog.specs.Reader.{cursor_in, cursor_of}
use Rattle.metalog.specs.declared.reader.State as reader
use Rattle.metalog.specs.declared.reader.State.TheVariants as states
use Rattle.metalog.specs.declared.reader.LogReader.{LogReader}
use Rattle.metalog.proofs.Logs.{room}
use Rattle.metalog.proofs.Paths.{nowhere_halts}
use Rattle.metalog.proofs.Turns.{Gave, items_gave, items_none}
use Rattle.metalog.proofs.Views as views
use Rattle.metalog.proofs.Views.{View, view, found}
use Rattle.volume.specs.State as volume
use Rattle.volume.specs.State.{State, start, state, wrong, apply, fold_items, finished, no_id}
use Rattle.volume.specs.Pair.{finished_of}
use Rattle.pairs.specs.declared.table.Table.{Table}
use Rattle.pairs.specs.declared.tags.Misplaced.{Misplaced}
use Rattle.pairs.specs.Tables.{state_of}
use Rattle.pairs.specs.Changes.{Applies}
use Rattle.pairs.proofs.Ends.{ends_in, ends_commits, finished_held, finished_none}

-- ---- a tag that was read

-- what is known of a tag of a commit: its id, and that its data stand in the block behind it
pub record Stands (b : List ℕ) (e : Entry) : Type 0 where
  pub small : e.id < 1024
  pub inside : e.offset + 4 + length e.bytes ≤ length b
  pub here : part b (e.offset + 4) (length e.bytes) ≡ e.bytes

stands_at : (b : List ℕ) (i prior sum : ℕ) (e : Entry) → Some (held e) ≡ (step b (at i prior sum)).item → View b i prior sum → Stands b e
stands_at b i prior sum e is (views.stops s) = let z : ◌≡◌ {A = ℕ} 0 1 = let k = ap (λ (x : Step). x.item) s in cc in absurd (omega arith)
stands_at b i prior sum e is (views.ends t f last right s) = let z : ◌≡◌ {A = ℕ} 0 1 = let k = ap (λ (x : Step). x.item) s in cc in absurd (omega arith)
stands_at b i prior sum e is (views.holds t f plain s) =
    let k = ap (λ (x : Step). x.item) s in
    let id : e.id ≡ id_of t = cc in
    let offset : e.offset ≡ i = cc in
    let bytes : e.bytes ≡ part b (i + 4) (length_of t) = cc in
    let fits = (found b i prior t f).fits in
    let long : length (part b (i + 4) (length_of t)) ≡ length_of t = simp (length-take, length-drop) (omega (arith, fits)) in
    let same : length e.bytes ≡ length_of t = ap length bytes ∙ long in
    record { small = omega (arith, id); inside = omega (arith, fits, same, offset); here = ap (λ n. part b (n + 4) (length e.bytes)) offset ∙ ap (part b (i + 4)) same ∙ sym bytes }

pub stands : (b : List ℕ) (c : Cursor) (e : Entry) → Some (held e) ≡ (step b c).item → Stands b e
stands b (at i prior sum) e is = stands_at b i prior sum e is (view b i prior sum)
stands b nowhere e is = let z : ◌≡◌ {A = ℕ} 0 1 = let k = ap (λ (x : Step). x.item) (nowhere_halts b) in cc in absurd (omega arith)

tag_at : (b : List ℕ) (i prior sum : ℕ) (e : End) → Some (ended e) ≡ (step b (at i prior sum)).item → View b i prior sum → e.tag < length b
tag_at b i prior sum e is (views.stops s) = let z : ◌≡◌ {A = ℕ} 0 1 = let k = ap (λ (x : Step). x.item) s in cc in absurd (omega arith)
tag_at b i prior sum e is (views.holds t f plain s) = let z : ◌≡◌ {A = ℕ} 0 1 = let k = ap (λ (x : Step). x.item) s in cc in absurd (omega arith)
tag_at b i prior sum e is (views.ends t f last right s) =
    let k = ap (λ (x : Step). x.item) s in
    let tag : e.tag ≡ i = cc in
    omega (arith, tag, (found b i prior t f).fits)

-- a tag that ends a commit stands in the block
pub tag_inside : (b : List ℕ) (c : Cursor) (e : End) → Some (ended e) ≡ (step b c).item → e.tag < length b
tag_inside b (at i prior sum) e is = tag_at b i prior sum e is (view b i prior sum)
tag_inside b nowhere e is = let z : ◌≡◌ {A = ℕ} 0 1 = let k = ap (λ (x : Step). x.item) (nowhere_halts b) in cc in absurd (omega arith)

-- the data stand there whatever is behind the block
pub stands_behind : (b rest : List ℕ) (e : Entry) → Stands b e → part (b ++ rest) (e.offset + 4) (length e.bytes) ≡ e.bytes
stands_behind b rest e s =
    let n = e.offset + 4 in
    let k = length e.bytes in
    let left : k ≤ length (drop n b) = simp length-drop (omega (arith, s.inside)) in
    ap (take k) (drop-append-le n b rest (omega (arith, s.inside))) ∙ take-append-le k (drop n b) rest left ∙ s.here

-- ---- one turn

fold_held : (s t : State) (e : Entry) (xs : List Item) → apply s e ≡ Some t → fold_items s (held e ∷ xs) ≡ fold_items t xs
unfolding fold_items
fold_held s t e xs is = ap (λ o. volume.step o e.offset (λ u. fold_items u xs)) is

fold_wrong : (s : State) (e : Entry) (xs : List Item) → apply s e ≡ None → fold_items s (held e ∷ xs) ≡ wrong e.offset
unfolding fold_items
fold_wrong s e xs is = ap (λ o. volume.step o e.offset (λ u. fold_items u xs)) is

fold_ended : (s : State) (e : End) (xs : List Item) → e.id ≡ no_id → fold_items s (ended e ∷ xs) ≡ fold_items s xs
unfolding fold_items
fold_ended s e xs is = cond-true (eqb e.id no_id) (fold_items s xs) (wrong e.tag) (eq-eqb e.id no_id is)

fold_misnamed : (s : State) (e : End) (xs : List Item) → (e.id ≡ no_id → ⊥) → fold_items s (ended e ∷ xs) ≡ wrong e.tag
unfolding fold_items
fold_misnamed s e xs not = cond-false (eqb e.id no_id) (fold_items s xs) (wrong e.tag) (ne_eqb e.id no_id not)

fold_all : (s : State) → fold_items s [] ≡ state s
unfolding fold_items
fold_all s = refl

-- at the place i, which is no farther than a block is long, the table has room for an entry for each four bytes that are left
pub record Room (i : ℕ) (t : Table) : Type 0 where
  pub begun : 4 ≤ i
  pub short : i ≤ 4096
  pub few : length t.entries.items ≤ 1023 + i / 4

-- At the place i, with `left` commits still to end, the rest of the log makes the whole state out of that of the table,
-- whatever stands behind the block.
pub record Sofar (b : List ℕ) (c : Cursor) (i left : ℕ) (t : Table) : Type 0 where
  pub fuel : ℕ
  pub enough : length b - i ≤ fuel
  pub room : 0 < left → Room i t
  pub ends : ends_in (items fuel b c) ≡ left
  pub whole : (rest : List ℕ) → fold_items (state_of (b ++ rest) t) (finished (items fuel b c)) ≡ fold_items start (finished_of b)

-- a reader begins behind the revision word
first_place : (b : List ℕ) (i prior : ℕ) (s : reader.State) → cursor_in i prior s ≡ log.start b → 4 ≤ length b → i ≡ 4
unfolding log.start
first_place b i prior (states.Inside sum) is le = let k = is ∙ cond-false (ltb (length b) 4) nowhere (at 4 first_prior (crc_of seed (take 4 b))) (le-ltb (length b) 4 le) in cc
first_place b i prior states.Ended is le = let k = is ∙ cond-false (ltb (length b) 4) nowhere (at 4 first_prior (crc_of seed (take 4 b))) (le-ltb (length b) 4 le) in cc
first_place b i prior states.Stopped is le = let k = is ∙ cond-false (ltb (length b) 4) nowhere (at 4 first_prior (crc_of seed (take 4 b))) (le-ltb (length b) 4 le) in cc

pub at_start : (b : List ℕ) (r : LogReader) (left : ℕ) (t : Table) → cursor_of r ≡ log.start b → left ≡ length (commits_of [] (items_of b)) → t.entries.items ≡ [] → t.tail ≡ None → t.moves ≡ None → Sofar b (cursor_of r) r.at left t
at_start b r left t is commits blank tail moves = record {
  fuel = length b;
  enough = omega arith;
  room = λ some.
      let long = room b (omega (arith, some, commits)) in
      let four = first_place b r.at r.prior r.state is long in
      record { begun = omega arith; short = omega arith; few = omega (arith, ap length blank) };
  ends = ap (λ k. ends_in (items (length b) b k)) is ∙ sym (commits ∙ ends_commits [] (items_of b));
  whole = λ rest. ap (λ k. fold_items (state_of (b ++ rest) t) (finished (items (length b) b k))) is ∙ ap (λ (s : State). fold_items s (finished_of b)) (cc);
}

module _ (b : List ℕ) (c d : Cursor) (i j left : ℕ) (t : Table) (small : length b ≤ 4096) (s : Sofar b c i left t) where
  held_more : (e : Entry) → Gave b c d i j (held e) → 0 < left → finished (items s.fuel b c) ≡ held e ∷ finished (items (s.fuel - 1) b d)
  held_more e g some =
      let more = items_gave s.fuel b c d i j (held e) s.enough g in
      let ends : ends_in (items (s.fuel - 1) b d) ≡ left = sym (ap ends_in more) ∙ s.ends in
      ap finished more ∙ finished_held e (items (s.fuel - 1) b d) (omega (arith, ends))

  pub after_held : (e : Entry) (u : Table) → Gave b c d i j (held e) → 0 < left → Applies t e (Ok tt) u → length u.entries.items ≤ max (length t.entries.items + 1) 1024 → Sofar b d j left u
  after_held e u g some change few = record {
    fuel = s.fuel - 1;
    enough = omega (arith, s.enough, g.moves.0);
    room = λ _. let room = s.room some in record { begun = omega (arith, g.moves.0); short = omega (arith, g.moves.1); few = omega (arith, g.moves.0) };
    ends = sym (ap ends_in (items_gave s.fuel b c d i j (held e) s.enough g)) ∙ s.ends;
    whole = λ rest.
        let does = change (b ++ rest) (stands_behind b rest e (stands b c e g.item)) in
        sym (ap (fold_items (state_of (b ++ rest) t)) (held_more e g some) ∙ fold_held (state_of (b ++ rest) t) (state_of (b ++ rest) u) e _ does) ∙ s.whole rest;
  }

  pub at_held_wrong : (e : Entry) (u : Table) → Gave b c d i j (held e) → 0 < left → Applies t e (Err (record {})) u → fold_items start (finished_of b) ≡ wrong e.offset
  at_held_wrong e u g some change =
      let does = change (b ++ []) (stands_behind b [] e (stands b c e g.item)) in
      sym (s.whole []) ∙ ap (fold_items (state_of (b ++ []) t)) (held_more e g some) ∙ fold_wrong (state_of (b ++ []) t) e _ does

  pub after_ended : (e : End) → Gave b c d i j (ended e) → 0 < left → e.id ≡ no_id → Sofar b d j (left - 1) t
  after_ended e g some is =
      let more = items_gave s.fuel b c d i j (ended e) s.enough g in
      let ends : suc (ends_in (items (s.fuel - 1) b d)) ≡ left = sym (ap ends_in more) ∙ s.ends in
      record {
        fuel = s.fuel - 1;
        enough = omega (arith, s.enough, g.moves.0);
        room = λ _. let room = s.room some in record { begun = omega (arith, g.moves.0); short = omega (arith, g.moves.1); few = omega (arith, g.moves.0) };
        ends = omega (arith, ends);
        whole = λ rest. sym (ap (λ xs. fold_items (state_of (b ++ rest) t) (finished xs)) more ∙ fold_ended (state_of (b ++ rest) t) e _ is) ∙ s.whole rest;
      }

  pub at_ended_wrong : (e : End) → Gave b c d i j (ended e) → (e.id ≡ no_id → ⊥) → fold_items start (finished_of b) ≡ wrong e.tag
  at_ended_wrong e g not = sym (s.whole []) ∙ ap (λ xs. fold_items (state_of (b ++ []) t) (finished xs)) (items_gave s.fuel b c d i j (ended e) s.enough g) ∙ fold_misnamed (state_of (b ++ []) t) e _ not

  pub at_end : ends_in (items s.fuel b c) ≡ 0 → (rest : List ℕ) → fold_items start (finished_of b) ≡ state (state_of (b ++ rest) t)
  at_end none rest = sym (s.whole rest) ∙ ap (fold_items (state_of (b ++ rest) t)) (finished_none (items s.fuel b c) none) ∙ fold_all (state_of (b ++ rest) t)

  pub at_last : left ≡ 0 → (rest : List ℕ) → fold_items start (finished_of b) ≡ state (state_of (b ++ rest) t)
  at_last none = at_end (s.ends ∙ none)

  pub at_none : None ≡ (step b c).item → (rest : List ℕ) → fold_items start (finished_of b) ≡ state (state_of (b ++ rest) t)
  at_none none = at_end (ap ends_in (items_none s.fuel b c (sym none)))

-- ---- what an applied tag answered

pub applied_ok : (t u : Table) (e : Entry) (r : Result (Unit {0}) Misplaced) → true ≡ is_ok r → Applies t e r u → Applies t e (Ok tt) u
applied_ok t u e (Ok x) is a = a
applied_ok t u e (Err w) is a = absurd (cc)

pub applied_err : (t u : Table) (e : Entry) (r : Result (Unit {0}) Misplaced) → false ≡ is_ok r → Applies t e r u → Applies t e (Err (record {})) u
applied_err t u e (Ok x) is a = absurd (cc)
applied_err t u e (Err w) is a = a
