-- What is looked for among the directories of a card is what is looked for in the table of its pairs.
use Rattle.std.proofs.Common.{◌≡◌, ℕ, zero, suc, ◌+◌, ◌<◌, ◌≤◌, Bool, true, false, cond, not, ◌&&◌, ◌||◌, eqb, ltb, List, [], ◌∷◌, ◌++◌, length, get_or, drop, Some, None, Option, sym, refl, ap, ◌∙◌, subst, append-nil, add-zero, arith}
use Rattle.std.proofs.lemmas.Bool.{and_parts}
use Rattle.volume.specs.Pair.{Pair}
use Rattle.volume.specs.Thread.{member}
use Rattle.volume.specs.Global.{same_blocks, Spot, find_entry, entry_in, Hiding}
use Rattle.volume.specs.Check.{Item, items_from, hardly, Dir, join, dirs_from, find_dir, items_at, orphans_from}
use Rattle.volume.specs.Rows.{Row, no_row, row_of, next_dir, next_first, rows_from, rows_of, dir_after, first_after, find_row_from, find_row, dir_at, find_pair_from, find_pair, spot_at, items_on, first_orphan}

-- ---- directories by their first pair

-- the directories that begin behind a place: all of them, or all but the one that the place is in
abbrev begun : Bool → List Dir → List Dir
begun true ds = ds
begun false [] = []
begun false (d ∷ ds) = ds

-- a pair in front of directories: the directory that it is the first pair of, and those that begin behind it
record Headed (hard : Bool) (d : Dir) (ds : List Dir) : Type 0 where
  head : Dir
  is : join hard d ds ≡ head ∷ begun (not hard) ds
  a : head.a ≡ d.a
  b : head.b ≡ d.b
  block : head.block ≡ d.block
  items : head.items ≡ d.items ++ cond hard (items_at 0 ds) []

headed : (hard : Bool) (d : Dir) (ds : List Dir) → Headed hard d ds
headed true d [] = record { head = d; is = refl; a = refl; b = refl; block = refl; items = sym (append-nil d.items) }
headed false d [] = record { head = d; is = refl; a = refl; b = refl; block = refl; items = sym (append-nil d.items) }
headed true d (e ∷ es) = record { head = _; is = refl; a = refl; b = refl; block = refl; items = refl }
headed false d (e ∷ es) = record { head = d; is = refl; a = refl; b = refl; block = refl; items = sym (append-nil d.items) }

-- the directory of one pair alone
abbrev alone : Hiding → ℕ → Pair → Dir
alone h k p = record { a = p.a; b = p.b; block = p.block; items = items_from h p.block k 0 p.state.entries; blocks = p.a ∷ p.b ∷ [] }

-- the directories from a pair on, where the pair is the first of its directory and where it is not
from_first : (h : Hiding) (k : ℕ) (p : Pair) (ps : List Pair) → Headed (hardly p.state.tail) (alone h k p) (dirs_from h (suc k) ps)
from_first h k p ps = headed (hardly p.state.tail) (alone h k p) (dirs_from h (suc k) ps)

from_later : (h : Hiding) (k : ℕ) (p : Pair) (ps : List Pair) → begun false (dirs_from h k (p ∷ ps)) ≡ begun (next_first p) (dirs_from h (suc k) ps)
from_later h k p ps = ap (begun false) (from_first h k p ps).is

-- the number of the first of the directories that begin behind a pair is one more than that of the pair's own
abbrev base : ℕ → Bool → ℕ
base n first = cond first n (suc n)

next_base : (n : ℕ) (p : Pair) → base (next_dir n p) (next_first p) ≡ suc n
next_base n p = by (hardly p.state.tail)
  where
    by : (hard : Bool) → base (cond hard n (suc n)) (not hard) ≡ suc n
    by true = refl
    by false = refl

-- ---- the table and the list

-- the table has a row for each pair
pub length_rows : (n : ℕ) (first : Bool) (ps : List Pair) → length (rows_from n first ps) ≡ length ps
length_rows n first [] = refl
length_rows n first (p ∷ ps) = ap suc (length_rows (next_dir n p) (next_first p) ps)

-- a row says of a pair what the pair is
pub record RowAs (r : Row) (p : Pair) : Type 0 where
  pub a : r.a ≡ p.a
  pub b : r.b ≡ p.b
  pub block : r.block ≡ p.block
  pub count : r.count ≡ length p.state.entries
  pub hard : r.hard ≡ hardly p.state.tail

-- the row at a place says what the pair at that place is
pub row_at : (n : ℕ) (first : Bool) (ps : List Pair) (i : ℕ) (d : Pair) → i < length ps → RowAs (get_or (rows_from n first ps) i no_row) (get_or ps i d)
row_at n first [] i d h = absurd (omega arith)
row_at n first (p ∷ ps) zero d h = record { a = refl; b = refl; block = refl; count = refl; hard = refl }
row_at n first (p ∷ ps) (suc i) d h = row_at (next_dir n p) (next_first p) ps i d (omega arith)

-- one pair more at the end: its row, and the directory behind it
pub rows_push : (n : ℕ) (first : Bool) (ps : List Pair) (p : Pair) → rows_from n first (ps ++ p ∷ []) ≡ rows_from n first ps ++ row_of (dir_after n ps) (first_after first ps) p ∷ []
rows_push n first [] p = refl
rows_push n first (q ∷ ps) p = ap (λ rs. row_of n first q ∷ rs) (rows_push (next_dir n q) (next_first q) ps p)

pub dir_push : (n : ℕ) (ps : List Pair) (p : Pair) → dir_after n (ps ++ p ∷ []) ≡ next_dir (dir_after n ps) p
dir_push n [] p = refl
dir_push n (q ∷ ps) p = dir_push (next_dir n q) ps p

pub first_push : (first : Bool) (ps : List Pair) (p : Pair) → first_after first (ps ++ p ∷ []) ≡ next_first p
first_push first [] p = refl
first_push first (q ∷ ps) p = first_push (next_first q) ps p

-- the number of a directory is at most one more behind a pair
next_below : (n : ℕ) (p : Pair) → next_dir n p ≤ suc n
next_below n p = by (hardly p.state.tail)
  where
    by : (hard : Bool) → cond hard n (suc n) ≤ suc n
    by true = omega arith
    by false = omega arith

-- so a pair's directory has at most the number of the pair
pub dir_below : (n : ℕ) (first : Bool) (ps : List Pair) (i : ℕ) → (get_or (rows_from n first ps) i no_row).dir ≤ n + i
dir_below n first [] i = omega arith
dir_below n first (p ∷ ps) zero = omega arith
dir_below n first (p ∷ ps) (suc i) = omega (arith, dir_below (next_dir n p) (next_first p) ps i, next_below n p)

pub after_below : (n : ℕ) (ps : List Pair) → dir_after n ps ≤ n + length ps
after_below n [] = omega arith
after_below n (p ∷ ps) = omega (arith, after_below (next_dir n p) ps, next_below n p)

-- a row that begins a directory is in the table
pub first_within : (rs : List Row) (i : ℕ) → (get_or rs i no_row).first ≡ true → i < length rs
first_within [] i e = let bad : ◌≡◌ {A = ℕ} 0 1 = cc in absurd (omega arith)
first_within (r ∷ rs) zero e = omega arith
first_within (r ∷ rs) (suc i) e = omega (arith, first_within rs i e)

-- ---- rows as they are met, from a place of the table on

-- what stands from the i-th row on
abbrev pub Behind : List Row → ℕ → List Row → Type 0
Behind table i rs = (j : ℕ) → get_or table (i + j) no_row ≡ get_or rs j no_row

-- the whole table stands from its first row on
behind_all : (table : List Row) → Behind table 0 table
behind_all table j = let e : 0 + j ≡ j = omega arith in ap (λ k. get_or table k no_row) e

behind_here : (table : List Row) (i : ℕ) (r : Row) (rs : List Row) → Behind table i (r ∷ rs) → get_or table i no_row ≡ r
behind_here table i r rs h = ap (λ k. get_or table k no_row) (sym (add-zero i)) ∙ h 0

behind_next : (table : List Row) (i : ℕ) (r : Row) (rs : List Row) → Behind table i (r ∷ rs) → Behind table (suc i) rs
behind_next table i r rs h j = let e : suc i + j ≡ i + suc j = omega arith in ap (λ k. get_or table k no_row) e ∙ h (suc j)

-- ---- the directory of a pair of blocks

-- which directory begins with a pair of blocks, of those that begin behind a place
dirs_found : (table : List Row) (i n : ℕ) (first : Bool) (h : Hiding) (k : ℕ) (ps : List Pair) (x y : ℕ) → Behind table i (rows_from n first ps)
    → find_dir (base n first) (begun first (dirs_from h k ps)) x y ≡ dir_at table (find_row_from i (rows_from n first ps) x y)
dirs_found table i n true h k [] x y at = refl
dirs_found table i n false h k [] x y at = refl
dirs_found table i n true h k (p ∷ ps) x y at =
    let f = from_first h k p ps in
    let rs = rows_from (next_dir n p) (next_first p) ps in
    let rest = begun (next_first p) (dirs_from h (suc k) ps) in
    let same : same_blocks f.head.a f.head.b x y ≡ same_blocks p.a p.b x y = ap (λ v. same_blocks v f.head.b x y) f.a ∙ ap (λ v. same_blocks p.a v x y) f.b in
    let below = ap (λ v. find_dir v rest x y) (sym (next_base n p)) ∙ dirs_found table (suc i) (next_dir n p) (next_first p) h (suc k) ps x y (behind_next table i (row_of n true p) rs at) in
    ap (λ ds. find_dir n ds x y) f.is ∙ ap (λ v. cond v (Some n) (find_dir (suc n) rest x y)) same
    ∙ by (same_blocks p.a p.b x y) (find_dir (suc n) rest x y) (find_row_from (suc i) rs x y) (ap (λ (r : Row). r.dir) (behind_here table i (row_of n true p) rs at)) below
  where
    by : (v : Bool) (o q : Option ℕ) → (get_or table i no_row).dir ≡ n → o ≡ dir_at table q → cond v (Some n) o ≡ dir_at table (cond v (Some i) q)
    by true o q here below = ap Some (sym here)
    by false o q here below = below
dirs_found table i n false h k (p ∷ ps) x y at =
    let rs = rows_from (next_dir n p) (next_first p) ps in
    ap (λ ds. find_dir (suc n) ds x y) (from_later h k p ps) ∙ ap (λ v. find_dir v (begun (next_first p) (dirs_from h (suc k) ps)) x y) (sym (next_base n p))
    ∙ dirs_found table (suc i) (next_dir n p) (next_first p) h (suc k) ps x y (behind_next table i (row_of n false p) rs at)

-- THE DIRECTORY OF A PAIR OF BLOCKS is that of the row that begins a directory and has them
pub find_dir_lem : (h : Hiding) (ps : List Pair) (x y : ℕ) → find_dir 0 (dirs_from h 0 ps) x y ≡ dir_at (rows_of ps) (find_row (rows_of ps) x y)
find_dir_lem h ps x y = dirs_found (rows_of ps) 0 0 true h 0 ps x y (behind_all (rows_of ps))

-- so where there is no directory, there is no row
pub no_row_lem : (h : Hiding) (ps : List Pair) (x y : ℕ) → find_dir 0 (dirs_from h 0 ps) x y ≡ None → find_row (rows_of ps) x y ≡ None
no_row_lem h ps x y e = by (find_row (rows_of ps) x y) (sym (find_dir_lem h ps x y) ∙ e)
  where
    by : (o : Option ℕ) → dir_at (rows_of ps) o ≡ None → o ≡ None
    by None f = refl
    by (Some i) f = let bad : ◌≡◌ {A = ℕ} 0 1 = cc in absurd (omega arith)

-- a row that was found begins a directory, and has the blocks
pub record Begins (r : Row) (x y : ℕ) : Type 0 where
  pub first : r.first ≡ true
  pub same : same_blocks r.a r.b x y ≡ true

row_from : (table : List Row) (i : ℕ) (rs : List Row) (x y j : ℕ) → Behind table i rs → find_row_from i rs x y ≡ Some j → Begins (get_or table j no_row) x y
row_from table i [] x y j at e = let bad : ◌≡◌ {A = ℕ} 0 1 = cc in absurd (omega arith)
row_from table i (r ∷ rs) x y j at e = by (r.first && same_blocks r.a r.b x y) refl e (row_from table (suc i) rs x y j (behind_next table i r rs at))
  where
    by : (v : Bool) → (r.first && same_blocks r.a r.b x y) ≡ v → cond v (Some i) (find_row_from (suc i) rs x y) ≡ Some j → (find_row_from (suc i) rs x y ≡ Some j → Begins (get_or table j no_row) x y) → Begins (get_or table j no_row) x y
    by true t f rest =
        let is : i ≡ j = cc in
        let both = and_parts r.first (same_blocks r.a r.b x y) t in
        subst (λ (q : Row). Begins q x y) (sym (behind_here table i r rs at) ∙ ap (λ k. get_or table k no_row) is) (record { first = both.0; same = both.1 })
    by false t f rest = rest f

pub row_found : (rs : List Row) (x y j : ℕ) → find_row rs x y ≡ Some j → Begins (get_or rs j no_row) x y
row_found rs x y j e = row_from rs 0 rs x y j (behind_all rs) e

-- ---- the items of a directory

-- the items of the directory that a pair is in, from that pair on
pub items_first : (h : Hiding) (k : ℕ) (ps : List Pair) → items_at 0 (dirs_from h k ps) ≡ items_on h k ps
items_first h k [] = refl
items_first h k (p ∷ ps) =
    let f = from_first h k p ps in
    let own = items_from h p.block k 0 p.state.entries in
    ap (items_at 0) f.is ∙ f.items ∙ ap (λ xs. own ++ cond (hardly p.state.tail) xs []) (items_first h (suc k) ps)

-- the items of a directory that begins at a row
record ItemsAs (ds : List Dir) (start : ℕ) (r : Row) (xs : List Item) : Type 0 where
  place : ℕ
  number : r.dir ≡ start + place
  items : items_at place ds ≡ xs

items_at_lem : (n : ℕ) (first : Bool) (h : Hiding) (k : ℕ) (ps : List Pair) (i : ℕ) → (get_or (rows_from n first ps) i no_row).first ≡ true
    → ItemsAs (begun first (dirs_from h k ps)) (base n first) (get_or (rows_from n first ps) i no_row) (items_on h (k + i) (drop i ps))
items_at_lem n first h k [] i e = let bad : ◌≡◌ {A = ℕ} 0 1 = cc in absurd (omega arith)
items_at_lem n true h k (p ∷ ps) zero e = record { place = 0; number = sym (add-zero n); items = items_first h k (p ∷ ps) ∙ ap (λ v. items_on h v (p ∷ ps)) (sym (add-zero k)) }
items_at_lem n false h k (p ∷ ps) zero e = let bad : ◌≡◌ {A = ℕ} 0 1 = cc in absurd (omega arith)
items_at_lem n true h k (p ∷ ps) (suc i) e =
    let s = items_at_lem (next_dir n p) (next_first p) h (suc k) ps i e in
    let place : suc k + i ≡ k + suc i = omega arith in
    record {
      place = suc s.place;
      number = omega (arith, s.number, next_base n p);
      items = ap (items_at (suc s.place)) (from_first h k p ps).is ∙ s.items ∙ ap (λ v. items_on h v (drop i ps)) place;
    }
items_at_lem n false h k (p ∷ ps) (suc i) e =
    let s = items_at_lem (next_dir n p) (next_first p) h (suc k) ps i e in
    let place : suc k + i ≡ k + suc i = omega arith in
    record {
      place = s.place;
      number = omega (arith, s.number, next_base n p);
      items = ap (items_at s.place) (from_later h k p ps) ∙ s.items ∙ ap (λ v. items_on h v (drop i ps)) place;
    }

-- THE ITEMS OF A DIRECTORY are those from its first pair on
pub row_items : (h : Hiding) (ps : List Pair) (i : ℕ) → (get_or (rows_of ps) i no_row).first ≡ true → items_at (get_or (rows_of ps) i no_row).dir (dirs_from h 0 ps) ≡ items_on h i (drop i ps)
row_items h ps i e =
    let s = items_at_lem 0 true h 0 ps i e in
    let number : (get_or (rows_of ps) i no_row).dir ≡ s.place = omega (arith, s.number) in
    let place : 0 + i ≡ i = omega arith in
    ap (λ v. items_at v (dirs_from h 0 ps)) number ∙ s.items ∙ ap (λ v. items_on h v (drop i ps)) place

-- ---- directories without an entry

-- the block of the first directory
abbrev pub first_block : List Dir → Option ℕ
first_block [] = None
first_block (d ∷ ds) = Some d.block

orphans_from_lem : (met : List ℕ) (n : ℕ) (first : Bool) (h : Hiding) (k : ℕ) (ps : List Pair) → first_block (orphans_from (base n first) met (begun first (dirs_from h k ps))) ≡ first_orphan (λ m. member m met) (rows_from n first ps)
orphans_from_lem met n true h k [] = refl
orphans_from_lem met n false h k [] = refl
orphans_from_lem met n true h k (p ∷ ps) =
    let f = from_first h k p ps in
    let rest = begun (next_first p) (dirs_from h (suc k) ps) in
    ap (λ ds. first_block (orphans_from n met ds)) f.is
    ∙ by (eqb n 0 || member n met) f.head (orphans_from (suc n) met rest) (first_orphan (λ m. member m met) (rows_from (next_dir n p) (next_first p) ps)) f.block
    (ap (λ v. first_block (orphans_from v met rest)) (sym (next_base n p)) ∙ orphans_from_lem met (next_dir n p) (next_first p) h (suc k) ps)
  where
    by : (v : Bool) (d : Dir) (os : List Dir) (q : Option ℕ) → d.block ≡ p.block → first_block os ≡ q → first_block (cond v os (d ∷ os)) ≡ cond (true && not v) (Some p.block) q
    by true d os q here rest = rest
    by false d os q here rest = ap Some here
orphans_from_lem met n false h k (p ∷ ps) =
    let rest = begun (next_first p) (dirs_from h (suc k) ps) in
    ap (λ ds. first_block (orphans_from (suc n) met ds)) (from_later h k p ps) ∙ ap (λ v. first_block (orphans_from v met rest)) (sym (next_base n p))
    ∙ orphans_from_lem met (next_dir n p) (next_first p) h (suc k) ps

-- THE FIRST ORPHAN is the first row that begins a directory which is not met and not the root
pub first_orphan_lem : (met : List ℕ) (h : Hiding) (ps : List Pair) → first_block (orphans_from 0 met (dirs_from h 0 ps)) ≡ first_orphan (λ n. member n met) (rows_of ps)
first_orphan_lem met h ps = orphans_from_lem met 0 true h 0 ps

-- there is none where no row is found, and only there
pub no_orphan : (met : List ℕ) (h : Hiding) (ps : List Pair) → first_orphan (λ n. member n met) (rows_of ps) ≡ None → orphans_from 0 met (dirs_from h 0 ps) ≡ []
no_orphan met h ps e = by (orphans_from 0 met (dirs_from h 0 ps)) (first_orphan_lem met h ps ∙ e)
  where
    by : (os : List Dir) → first_block os ≡ None → os ≡ []
    by [] f = refl
    by (d ∷ ds) f = let bad : ◌≡◌ {A = ℕ} 0 1 = cc in absurd (omega arith)

pub no_orphan_row : (met : List ℕ) (h : Hiding) (ps : List Pair) → orphans_from 0 met (dirs_from h 0 ps) ≡ [] → first_orphan (λ n. member n met) (rows_of ps) ≡ None
no_orphan_row met h ps e = sym (first_orphan_lem met h ps) ∙ ap first_block e

-- there are some, the first of them with that block, where a row is found
pub record Orphaned (os : List Dir) (block : ℕ) : Type 0 where
  pub first : Dir
  pub others : List Dir
  pub are : os ≡ first ∷ others
  pub at : first.block ≡ block

pub some_orphan : (met : List ℕ) (h : Hiding) (ps : List Pair) (block : ℕ) → first_orphan (λ n. member n met) (rows_of ps) ≡ Some block → Orphaned (orphans_from 0 met (dirs_from h 0 ps)) block
some_orphan met h ps block e = by (orphans_from 0 met (dirs_from h 0 ps)) (first_orphan_lem met h ps ∙ e)
  where
    by : (os : List Dir) → first_block os ≡ Some block → Orphaned os block
    by [] f = let bad : ◌≡◌ {A = ℕ} 0 1 = cc in absurd (omega arith)
    by (d ∷ ds) f = record { first = d; others = ds; are = refl; at = cc }

-- two tests of one set find the same row
pub same_orphan : (f g : ℕ → Bool) (rs : List Row) → ((n : ℕ) → f n ≡ g n) → first_orphan f rs ≡ first_orphan g rs
same_orphan f g [] e = refl
same_orphan f g (r ∷ rs) e =
    ap (λ v. cond (r.first && not (eqb r.dir 0 || v)) (Some r.block) (first_orphan f rs)) (e r.dir)
    ∙ ap (λ v. cond (r.first && not (eqb r.dir 0 || g r.dir)) (Some r.block) v) (same_orphan f g rs e)

-- ---- the entry with an id in the pair of two blocks

entries_found : (table : List Row) (n : ℕ) (first : Bool) (k : ℕ) (ps : List Pair) (x y id : ℕ) → Behind table k (rows_from n first ps) → find_entry k ps x y id ≡ spot_at table (find_pair_from k (rows_from n first ps) x y) id
entries_found table n first k [] x y id at = refl
entries_found table n first k (p ∷ ps) x y id at =
    let rs = rows_from (next_dir n p) (next_first p) ps in
    by (same_blocks p.a p.b x y) (find_entry (suc k) ps x y id) (find_pair_from (suc k) rs x y) (ap (λ (r : Row). r.count) (behind_here table k (row_of n first p) rs at))
    (entries_found table (next_dir n p) (next_first p) (suc k) ps x y id (behind_next table k (row_of n first p) rs at))
  where
    by : (v : Bool) (o : Option Spot) (q : Option ℕ) → (get_or table k no_row).count ≡ length p.state.entries → o ≡ spot_at table q id → cond v (entry_in k id p.state.entries) o ≡ spot_at table (cond v (Some k) q) id
    by true o q here rest = ap (λ m. cond (ltb id m) (Some (record { pair = k; id = id })) None) (sym here)
    by false o q here rest = rest

-- THE ENTRY OF A PAIR OF BLOCKS is in the first row that has them
pub find_entry_lem : (ps : List Pair) (x y id : ℕ) → find_entry 0 ps x y id ≡ spot_at (rows_of ps) (find_pair (rows_of ps) x y) id
find_entry_lem ps x y id = entries_found (rows_of ps) 0 true 0 ps x y id (behind_all (rows_of ps))
