-- What a `LogReader` gives, one after the other; and what one turn of a loop over it keeps: what is still to be read makes
-- the whole.
use Rattle.std.proofs.Common.{◌≡◌, ℕ, zero, suc, ◌+◌, ◌-◌, ◌≤◌, List, [], ◌∷◌, ◌++◌, length, Some, None, Option, sym, refl, ap, ◌∙◌, subst, arith}
use Rattle.std.specs.Iterator.{AlwaysYields}
use Rattle.std.proofs.lemmas.Iterator.{YieldsList}
use Rattle.metalog.specs.declared.reader.LogReader.{LogReader}
use Rattle.metalog.specs.Reader.{item_of, cursor_of, Reads}
use Rattle.metalog.specs.Log.{Entry, Item, held, ended, Cursor, End, step, start, before, items, items_of, commits_of, end_from, end_of}

pub items_some : (n : ℕ) (b : List ℕ) (c : Cursor) (x : Item) → (step b c).item ≡ Some x → items (suc n) b c ≡ x ∷ items n b (step b c).next
unfolding items
items_some n b c x e = ap (λ o. before o (items n b (step b c).next)) e

pub items_none : (n : ℕ) (b : List ℕ) (c : Cursor) → (step b c).item ≡ None → items n b c ≡ []
unfolding items
items_none zero b c e = refl
items_none (suc n) b c e = ap (λ o. before o (items n b (step b c).next)) e

-- a reader gives what is read from where it stands, for any number of tags that is large enough
listed : (n : ℕ) (r : LogReader) → length r.block.now - r.at ≤ n → AlwaysYields Reads item_of r (items n r.block.now (cursor_of r))
unfolding items
listed zero r enough = λ x j g. absurd (omega (arith, g.moves))
listed (suc n) r enough = go (listed n) (step r.block.now (cursor_of r)).item refl
  where
    go : ((j : LogReader) → length j.block.now - j.at ≤ n → AlwaysYields Reads item_of j (items n j.block.now (cursor_of j)))
        → (o : Option Item) → (step r.block.now (cursor_of r)).item ≡ o → AlwaysYields Reads item_of r (items (suc n) r.block.now (cursor_of r))
    go rest None e = subst (AlwaysYields Reads item_of r) (sym (items_none (suc n) r.block.now (cursor_of r) e)) (λ x j g. let is = g.item in cc)
    go rest (Some y) e =
        subst (AlwaysYields Reads item_of r) (sym (items_some n r.block.now (cursor_of r) y e)) (
          λ j g. let is = g.item in cc,
          λ x j g.
              let is = g.item in
              let same : items n j.block.now (cursor_of j) ≡ items n r.block.now (step r.block.now (cursor_of r)).next = (λ k. items n (g.block k) (g.cursor k)) in (
                cc,
                subst (AlwaysYields Reads item_of j) same (rest j (omega (arith, enough, g.moves, ap length g.block))),
              ),
        )

-- a reader at the start of a block gives all that is read of the block
pub yields_all : (b : List ℕ) (r : LogReader) → r.block.now ≡ b → cursor_of r ≡ start b → YieldsList Reads item_of r (items_of b)
yields_all b r block cursor =
    let same : items (length b) r.block.now (cursor_of r) ≡ items_of b = (λ k. items (length b) (block k) (cursor k)) in
    record { runs = subst (AlwaysYields Reads item_of r) same (listed (length b) r (omega (arith, ap length block))) }

-- at the place i, with `commits` commits read, of which the last ended at `end`, the rest of the log makes the whole
pub record Sofar (b : List ℕ) (c : Cursor) (i commits : ℕ) (end : End) : Type 0 where
  pub fuel : ℕ
  pub begun : List Entry
  pub enough : length b - i ≤ fuel
  pub few : commits ≤ i
  pub count : commits + length (commits_of begun (items fuel b c)) ≡ length (commits_of [] (items_of b))
  pub last : end_from end (items fuel b c) ≡ end_of b

-- a call of `next` that gave x: the reader went from c at i to d at j, over what the block b holds
pub record Gave (b : List ℕ) (c d : Cursor) (i j : ℕ) (x : Item) : Type 0 where
  pub item : Some x ≡ (step b c).item
  pub next : d ≡ (step b c).next
  pub moves : (i + 4 ≤ j) × (j ≤ length b)

-- a reader that gives an item has fuel for it
pub items_gave : (n : ℕ) (b : List ℕ) (c d : Cursor) (i j : ℕ) (x : Item) → length b - i ≤ n → Gave b c d i j x → items n b c ≡ x ∷ items (n - 1) b d
items_gave n b c d i j x enough g =
    let one : n ≡ suc (n - 1) = omega (arith, enough, g.moves.0, g.moves.1) in
    ap (λ k. items k b c) one ∙ items_some (n - 1) b c x (sym g.item) ∙ ap (λ k. x ∷ items (n - 1) b k) (sym g.next)

module _ (b : List ℕ) (c d : Cursor) (i j n : ℕ) (e : End) (s : Sofar b c i n e) where
  -- so has the reader of a loop, with the fuel that is left
  spent : (x : Item) → Gave b c d i j x → items s.fuel b c ≡ x ∷ items (s.fuel - 1) b d
  spent x g = items_gave s.fuel b c d i j x s.enough g

  pub after_held : (x : Entry) → Gave b c d i j (held x) → Sofar b d j n e
  after_held x g =
      let more = spent (held x) g in
      record {
        fuel = s.fuel - 1;
        begun = s.begun ++ x ∷ [];
        enough = omega (arith, s.enough, g.moves.0);
        few = omega (arith, s.few, g.moves.0);
        count = sym (ap (λ xs. n + length (commits_of s.begun xs)) more) ∙ s.count;
        last = sym (ap (end_from e) more) ∙ s.last;
      }

  pub after_ended : (x : End) → Gave b c d i j (ended x) → Sofar b d j (n + 1) x
  after_ended x g =
      let more = spent (ended x) g in
      let count : n + suc (length (commits_of [] (items (s.fuel - 1) b d))) ≡ length (commits_of [] (items_of b)) = sym (ap (λ xs. n + length (commits_of s.begun xs)) more) ∙ s.count in
      record {
        fuel = s.fuel - 1;
        begun = [];
        enough = omega (arith, s.enough, g.moves.0);
        few = omega (arith, s.few, g.moves.0);
        count = omega (arith, count);
        last = sym (ap (end_from e) more) ∙ s.last;
      }

  pub at_end : None ≡ (step b c).item → (n ≡ length (commits_of [] (items_of b))) × (e ≡ end_of b)
  at_end none =
      let nil = items_none s.fuel b c (sym none) in
      (omega (arith, ap (λ xs. n + length (commits_of s.begun xs)) nil, s.count), sym (ap (end_from e) nil) ∙ s.last)
