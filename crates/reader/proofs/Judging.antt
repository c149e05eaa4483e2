-- What the judgements on an entry rest on.
use Rattle.std.proofs.Common.{◌≡◌, ℕ, ◌<◌, ◌≤◌, Bool, true, false, cond, ◌&&◌, ◌||◌, eqb, leb, List, length, get_or, Some, None, Ok, Err, Option, Result, sym, refl, ap, ◌∙◌, subst, arith}
use Rattle.std.proofs.lemmas.Bool.{and_from, and_parts, le-leb, leb-true, lt-ltb}
use Rattle.std.specs.List.{slice_get}
use Rattle.std.specs.Option.{option_map}
use Rattle.blockset.specs.Holds.{holds, Inserted}
use Rattle.blockset.specs.declared.BlockSet.{BlockSet}
use Rattle.files.specs.Verdict.{verdict, FileChecked}
use Rattle.flash.specs.Card.{Card}
use Rattle.pairlist.specs.Desks.{Listed}
use Rattle.pairlist.specs.Rows.{row_for, rows_in}
use Rattle.pairlist.specs.Visits.{ok_unless}
use Rattle.pairlist.specs.declared.rows.Row as code
use Rattle.pairlist.specs.declared.rows.PairList.{PairList}
use Rattle.pairs.specs.Slots.{content_of}
use Rattle.pairs.specs.declared.entry.Content.{Content}
use Rattle.pairs.specs.declared.entry.Content.TheVariants.{SkipList}
use Rattle.pairlist.proofs.Stepping.{row_there, row_missing}
use Rattle.volume.specs.Check.{is_size, dirs_from, find_dir, name_fault, follows}
use Rattle.volume.specs.Files.{file_fault}
use Rattle.volume.specs.Global.{Hiding}
use Rattle.volume.specs.Listing.{Readable}
use Rattle.volume.specs.Marks.{Marks}
use Rattle.volume.specs.Pair.{Pair}
use Rattle.volume.specs.Rows.{Row, no_row, rows_of, find_row, dir_at}
use Rattle.volume.specs.State.{skip, SizedIn}
use Rattle.volume.specs.Tree.{Name, is_name}
use Rattle.volume.specs.declared.fault.What.{What}
use Rattle.volume.specs.declared.fault.What.TheVariants as what
use Rattle.volume.proofs.Rows.{length_rows, find_dir_lem, row_found, first_within, dir_below}
use Rattle.reader.specs.Scans.{BlocksChecked, barred, DirEntered}

-- ---- the blocks of a file

-- on a card that can be read, and with a size that a file has, what is wrong is the file's
verdict_file : (c : Card) (seen : List ℕ) (h n : ℕ) → Readable c → (1 ≤ n) × (n ≤ 1048576) → verdict c seen h n ≡ file_fault c seen h n
unfolding verdict
verdict_file c seen h n r s =
    ap (λ v. cond v (Some what.Dark) (cond (is_size c.size (length c.blocks)) (cond (leb 1 n && leb n 1048576) (file_fault c seen h n) (Some what.Tag)) (Some what.Size))) r.bright
    ∙ ap (λ v. cond v (cond (leb 1 n && leb n 1048576) (file_fault c seen h n) (Some what.Tag)) (Some what.Size)) r.sized
    ∙ ap (λ v. cond v (file_fault c seen h n) (Some what.Tag)) (and_from (leb 1 n) (leb n 1048576) (le-leb 1 n s.0) (le-leb n 1048576 s.1))

file_blocks_lem : {T : Type 0} (c : Card) (seen : List ℕ) (h n : ℕ) (r : Result T What) (s : BlockSet) → Readable c → (1 ≤ n) × (n ≤ 1048576) → FileChecked c seen h n r s → BlocksChecked c seen (Some (skip h n)) r s
file_blocks_lem c seen h n (Ok x) s k z e = (sym (verdict_file c seen h n k z) ∙ e.0, e.1)
file_blocks_lem c seen h n (Err w) s k z e = sym (verdict_file c seen h n k z) ∙ e

-- the same of a content as it is kept
pub file_content : {T : Type 0} (c : Card) (b seen : List ℕ) (o : Option Content) (h n : ℕ) (r : Result T What) (s : BlockSet) → Readable c → SizedIn (option_map (content_of b) o) → o ≡ Some (SkipList h n) → FileChecked c seen h n r s
    → BlocksChecked c seen (option_map (content_of b) o) r s
file_content c b seen o h n r s k z is e =
    subst (λ (q : Option Content). BlocksChecked c seen (option_map (content_of b) q) r s) (sym is) (file_blocks_lem c seen h n r s k (subst (λ (q : Option Content). SizedIn (option_map (content_of b) q)) is z) e)

-- ---- a name

-- a name has 64 bytes at most
short_name : (n : Name) → is_name n ≡ true → length n ≤ 64
unfolding is_name
short_name n h = leb-true (length n) 64 (and_parts (leb (length n) 64) _ (and_parts (leb 1 (length n)) _ h).1).0

-- and so has one of which nothing is wrong
pub name_short : (deep : Bool) (last : Option Name) (n : Name) → name_fault deep last n ≡ None → length n ≤ 64
name_short deep last n e = by (follows last n) (is_name n) refl e
  where
    by : (u v : Bool) → is_name n ≡ v → cond u (cond v (cond deep (Some what.Depth) None) (Some what.Name)) (Some what.NameOrder) ≡ None → length n ≤ 64
    by true true h k = short_name n h
    by true false h k = let bad : ◌≡◌ {A = ℕ} 0 1 = cc in absurd (omega arith)
    by false v h k = let bad : ◌≡◌ {A = ℕ} 0 1 = cc in absurd (omega arith)

-- where the answer is Ok, nothing is wrong
pub no_fault : (o : Option What) (u : Unit {0}) → Ok u ≡ ok_unless o → o ≡ None
no_fault None u e = refl
no_fault (Some w) u e = absurd (cc)

-- ---- the directory that an entry leads to

module _ (c : Card) (ps : List Pair) (l : PairList) (h : Hiding) (x y : ℕ) (listed : Listed c ps l) where
  -- which directory it is, by the rows as they are kept
  number : (o : Option ℕ) → o ≡ find_row (rows_in l) x y → find_dir 0 (dirs_from h 0 ps) x y ≡ dir_at (rows_of ps) o
  number o e = find_dir_lem h ps x y ∙ ap (dir_at (rows_of ps)) (sym (e ∙ ap (λ rs. find_row rs x y) listed.rows))

  pub no_directory : (dirs : List ℕ) → None ≡ find_row (rows_in l) x y → barred (find_dir 0 (dirs_from h 0 ps) x y) dirs ≡ true
  no_directory dirs e = ap (λ o. barred o dirs) (number None e)

  module _ (k : ℕ) (found : Some k ≡ find_row (rows_in l) x y) where
    begins : (get_or (rows_of ps) k no_row).first ≡ true
    begins = (row_found (rows_of ps) x y k (sym (found ∙ ap (λ rs. find_row rs x y) listed.rows))).first

    within : k < length ps
    within = omega (arith, first_within (rows_of ps) k begins, length_rows 0 true ps)

    pub row_kept : None ≡ slice_get (rows_in l) k → ⊥
    row_kept none = row_missing (rows_in l) k (omega (arith, ap length listed.rows, length_rows 0 true ps, within)) none

    module _ (r : code.Row) (there : Some (row_for r) ≡ slice_get (rows_in l) k) where
      dir_is : (get_or (rows_of ps) k no_row).dir ≡ r.dir
      dir_is = ap (λ rs. (get_or rs k no_row).dir) (sym listed.rows) ∙ ap (λ (q : Row). q.dir) (row_there (rows_in l) k (row_for r) there).1

      to_it : find_dir 0 (dirs_from h 0 ps) x y ≡ Some r.dir
      to_it = number (Some k) found ∙ ap Some dir_is

      pub directory_barred : (s : BlockSet) (dirs : List ℕ) → Marks s dirs → (eqb r.dir 0 || holds s r.dir) ≡ true → barred (find_dir 0 (dirs_from h 0 ps) x y) dirs ≡ true
      directory_barred s dirs m e = ap (λ o. barred o dirs) to_it ∙ ap (λ v. eqb r.dir 0 || v) (sym (m r.dir)) ∙ e

      pub directory_entered : (s t : BlockSet) (dirs : List ℕ) → Marks s dirs → (eqb r.dir 0 || holds s r.dir) ≡ false → Inserted s r.dir t → DirEntered ps dirs (find_dir 0 (dirs_from h 0 ps) x y) k t
      directory_entered s t dirs m e i =
          let small : r.dir < 4096 = omega (arith, dir_below 0 true ps k, dir_is, within, listed.few) in
          record {
            number = r.dir;
            to_it = to_it;
            free = ap (λ v. eqb r.dir 0 || v) (sym (m r.dir)) ∙ e;
            starts = record { first = begins; number = dir_is };
            marks = λ b. i.holding b ∙ ap (λ v. (v && eqb b r.dir) || holds s b) (lt-ltb r.dir 4096 small) ∙ ap (λ v. eqb b r.dir || v) (m b);
          }
