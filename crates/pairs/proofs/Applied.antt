-- What an effect on an entry does to the state of a table.
use Rattle.std.proofs.Common.{◌≡◌, ℕ, ◌<◌, ◌≤◌, Bool, true, false, ◌&&◌, eqb, ltb, leb, List, ◌∷◌, [], length, get_or, set, Some, None, Ok, Err, Result, sym, refl, ap, ◌∙◌, arith}
use Rattle.std.specs.List.{insert, remove}
use Rattle.std.proofs.lemmas.Bool.{cond-true, cond-false, and_from, lt-ltb, le-leb}
use Rattle.std.proofs.lemmas.Bool.Decides.{nat_tests}
use Rattle.metalog.specs.Tag.{le32}
use Rattle.volume.specs.State.{State, inserts, removes, names, points, holds, skips, applied, when, with_entries, with_name, with_content, Struct, pair, inline, skip}
use Rattle.pairs.specs.declared.entry.Kind.{Kind}
use Rattle.pairs.specs.declared.entry.Span.{Span}
use Rattle.pairs.specs.declared.entry.Name.{Name}
use Rattle.pairs.specs.declared.entry.Content.{Content}
use Rattle.pairs.specs.declared.entry.Content.TheVariants.{Pair, Inline, SkipList}
use Rattle.pairs.specs.declared.table.Table.{Table}
use Rattle.pairs.specs.declared.tags.Misplaced.{Misplaced}
use Rattle.pairs.specs.Slots.{name_of, content_of, kind_of, none}
use Rattle.pairs.specs.Tables.{state_of, grown_to, called, holding, Edited, Gives}
use Rattle.pairs.specs.Changes.{Changes, two_words}
use Rattle.pairs.proofs.Maps.{map_inserted, map_removed, map_name, map_content, edited_state, count_state}

done : (p q : Bool) (s u : State) → p ≡ q → q ≡ true → s ≡ u → when p s ≡ Some u
done p q s u same pass is = cond-true p (Some s) None (same ∙ pass) ∙ ap Some is

turned_down : (p q : Bool) (s : State) → p ≡ q → q ≡ false → when p s ≡ None
turned_down p q s same fails = cond-false p (Some s) None (same ∙ fails)

-- data that are two words
pub record AreTwo (xs ys : List ℕ) : Type 0 where
  pub long : eqb (length xs) 8 ≡ true
  pub content : ys ≡ le32 xs 0 ∷ le32 xs 4 ∷ []

pub two_ok : (xs ys : List ℕ) → Ok ys ≡ two_words xs → AreTwo xs ys
two_ok xs ys is = record { long = grind (arith, nat_tests); content = grind (arith, nat_tests) }

-- a content given to an entry that is there
content_state : (b : List ℕ) (t u : Table) (i : ℕ) (c : Content) (d : Struct) → i < length t.entries.items → content_of b c ≡ d → Edited t u (set t.entries.items i (holding (get_or t.entries.items i none) c)) → with_entries (state_of b t) (with_content (state_of b t).entries i d) ≡ state_of b u
content_state b t u i c d lt is e =
    sym (edited_state b t u _ e ∙ ap (with_entries (state_of b t)) (map_content b t.entries.items i c lt ∙ ap (with_content (state_of b t).entries i) is))

module _ (t u : Table) (i at : ℕ) (xs : List ℕ) where
  pub inserts_done : (eqb (length xs) 0 && leb i (length t.entries.items)) ≡ true → Edited t u (insert t.entries.items i none) → Changes t inserts i at xs (Ok tt) u
  unfolding applied
  inserts_done pass e b stands =
      done _ _ _ _ (ap (λ n. eqb (length xs) 0 && leb i n) (count_state b t)) pass (sym (edited_state b t u _ e ∙ ap (with_entries (state_of b t)) (map_inserted b t.entries.items i)))

  pub removes_done : (eqb (length xs) 0 && ltb i (length t.entries.items)) ≡ true → Edited t u (remove t.entries.items i) → Changes t removes i at xs (Ok tt) u
  unfolding applied
  removes_done pass e b stands =
      done _ _ _ _ (ap (λ n. eqb (length xs) 0 && ltb i n) (count_state b t)) pass (sym (edited_state b t u _ e ∙ ap (with_entries (state_of b t)) (map_removed b t.entries.items i)))

  pub names_done : (k : Kind) (s : Span) → s ≡ record { at = at; length = length xs } → (leb 1 (length xs) && leb (length xs) 64) ≡ true → (let n : Name = record { kind = k; span = s } in Edited t u (set (grown_to t.entries.items i) i (called (get_or (grown_to t.entries.items i) i none) n))) → Changes t (names (kind_of k)) i at xs (Ok tt) u
  unfolding applied
  names_done k s place pass e b stands =
      let n : Name = record { kind = k; span = s } in
      let is : name_of b n ≡ record { kind = kind_of k; bytes = xs } = ap (λ (p : Span). name_of b (record { kind = k; span = p })) place ∙ ap (λ (ys : List ℕ). record { kind = kind_of k; bytes = ys }) stands in
      done _ _ _ _ refl pass (sym (edited_state b t u _ e ∙ ap (with_entries (state_of b t)) (map_name b t.entries.items i n ∙ ap (with_name (state_of b t).entries i) is)))

  pub points_done : (ws : List ℕ) → Ok ws ≡ two_words xs → (r : Result (Unit {0}) Misplaced) → Gives t i (Pair (record { first = get_or ws 0 0; second = get_or ws 1 0 })) r u → Changes t points i at xs r u
  unfolding applied
  points_done ws two (Ok x) (lt, e) = λ b stands.
      let w = two_ok xs ws two in
      let pass : (eqb (length xs) 8 && ltb i (length t.entries.items)) ≡ true = and_from _ _ w.long (lt-ltb _ _ lt) in
      let is : pair (get_or ws 0 0) (get_or ws 1 0) ≡ pair (le32 xs 0) (le32 xs 4) = ap (λ vs. pair (get_or vs 0 0) (get_or vs 1 0)) w.content in
      done _ _ _ _ (ap (λ n. eqb (length xs) 8 && ltb i n) (count_state b t)) pass (content_state b t u i (Pair (record { first = get_or ws 0 0; second = get_or ws 1 0 })) _ lt is e)
  points_done ws two (Err x) absent = λ b stands.
      let fails : (eqb (length xs) 8 && ltb i (length t.entries.items)) ≡ false = grind (arith, nat_tests) in
      turned_down _ _ _ (ap (λ n. eqb (length xs) 8 && ltb i n) (count_state b t)) fails

  pub holds_done : (s : Span) → s ≡ record { at = at; length = length xs } → length xs ≤ 64 → (r : Result (Unit {0}) Misplaced) → Gives t i (Inline s) r u → Changes t holds i at xs r u
  unfolding applied
  holds_done s place few (Ok x) (lt, e) = λ b stands.
      let pass : (leb (length xs) 64 && ltb i (length t.entries.items)) ≡ true = grind (arith, nat_tests) in
      done _ _ _ _ (ap (λ n. leb (length xs) 64 && ltb i n) (count_state b t)) pass (content_state b t u i (Inline s) _ lt (ap (λ (p : Span). content_of b (Inline p)) place ∙ ap inline stands) e)
  holds_done s place few (Err x) absent = λ b stands.
      let fails : (leb (length xs) 64 && ltb i (length t.entries.items)) ≡ false = grind (arith, nat_tests) in
      turned_down _ _ _ (ap (λ n. leb (length xs) 64 && ltb i n) (count_state b t)) fails

  pub skips_done : (ws : List ℕ) → Ok ws ≡ two_words xs → 1 ≤ get_or ws 1 0 → get_or ws 1 0 ≤ 1048576 → (r : Result (Unit {0}) Misplaced) → Gives t i (SkipList (get_or ws 0 0) (get_or ws 1 0)) r u → Changes t skips i at xs r u
  unfolding applied
  skips_done ws two low high (Ok x) (lt, e) = λ b stands.
      let w = two_ok xs ws two in
      let size : get_or ws 1 0 ≡ le32 xs 4 = ap (λ vs. get_or vs 1 0) w.content in
      let pass : (eqb (length xs) 8 && (ltb i (length t.entries.items) && (leb 1 (le32 xs 4) && leb (le32 xs 4) 1048576))) ≡ true = and_from _ _ w.long (and_from _ _ (lt-ltb _ _ lt) (and_from _ _ (le-leb 1 (le32 xs 4) (omega (arith, size, low))) (le-leb (le32 xs 4) 1048576 (omega (arith, size, high))))) in
      let is : skip (get_or ws 0 0) (get_or ws 1 0) ≡ skip (le32 xs 0) (le32 xs 4) = ap (λ vs. skip (get_or vs 0 0) (get_or vs 1 0)) w.content in
      done _ _ _ _ (ap (λ n. eqb (length xs) 8 && (ltb i n && (leb 1 (le32 xs 4) && leb (le32 xs 4) 1048576))) (count_state b t)) pass (content_state b t u i (SkipList (get_or ws 0 0) (get_or ws 1 0)) _ lt is e)
  skips_done ws two low high (Err x) absent = λ b stands.
      let fails : (eqb (length xs) 8 && (ltb i (length t.entries.items) && (leb 1 (le32 xs 4) && leb (le32 xs 4) 1048576))) ≡ false = grind (arith, nat_tests) in
      turned_down _ _ _ (ap (λ n. eqb (length xs) 8 && (ltb i n && (leb 1 (le32 xs 4) && leb (le32 xs 4) 1048576))) (count_state b t)) fails
