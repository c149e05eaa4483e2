-- The blocks of a file, from its last block back: what one more block changes, and what the blocks are then.
use Rattle.std.proofs.Common.{◌≡◌, ℕ, zero, suc, ◌+◌, ◌-◌, ◌<◌, ◌≤◌, Bool, true, false, cond, ◌&&◌, ◌||◌, eqb, List, [], ◌∷◌, ◌++◌, length, take, drop, set, Some, None, Option, sym, refl, ap, ◌∙◌, subst, append_assoc, arith}
use native.Mathlib.Nat.{sub_self}
use Rattle.std.proofs.lemmas.List.{append-nil, drop-set}
use Rattle.std.proofs.lemmas.Bool.{lt-ltb, cond-true, cond-false}
use Rattle.blockset.specs.Holds.{holds, Inserted}
use Rattle.blockset.specs.declared.BlockSet.{BlockSet}
use Rattle.flash.specs.Card.{Card, bytes}
use Rattle.metalog.specs.Tag.{le32}
use Rattle.volume.specs.Thread.{usable, member}
use Rattle.volume.specs.Files.{chain, checked, chain_fault}
use Rattle.volume.specs.declared.fault.What.{What}
use Rattle.volume.specs.declared.fault.What.TheVariants.{EntryBlock, BlockTwice}
use Rattle.volume.specs.Marks.{Marks}

-- ---- one block

-- a block that is on a card that fits is in the set from now on
inserted_marks : (s t : BlockSet) (b : ℕ) (xs : List ℕ) → b < 4096 → Marks s xs → Inserted s b t → Marks t (b ∷ xs)
inserted_marks s t b xs room m i x =
    i.holding x ∙ ap (λ v. (v && eqb x b) || holds s x) (lt-ltb b 4096 room) ∙ ap (λ v. eqb x b || v) (m x)

-- where a block is good and serves nothing yet, what is wrong is what is wrong behind it
checked_rest : (c : Card) (seen : List ℕ) (b : ℕ) (rest : Option What) → usable c b ≡ true → member b seen ≡ false → checked c seen b rest ≡ rest
checked_rest c seen b rest good new =
    cond-true (usable c b) (cond (member b seen) (Some BlockTwice) rest) (Some EntryBlock) good ∙ cond-false (member b seen) (Some BlockTwice) rest new

-- else it is what is wrong with the block
checked_stops : (g m : Bool) (w : What) (rest : Option What) → cond g (cond m (Some BlockTwice) None) (Some EntryBlock) ≡ Some w → cond g (cond m (Some BlockTwice) rest) (Some EntryBlock) ≡ Some w
checked_stops true true w rest e = e
checked_stops true false w rest e = let bad : ◌≡◌ {A = ℕ} 0 1 = cc in absurd (omega arith)
checked_stops false m w rest e = e

fault_stops : (n : ℕ) (c : Card) (seen : List ℕ) (b : ℕ) (w : What) → cond (usable c b) (cond (member b seen) (Some BlockTwice) None) (Some EntryBlock) ≡ Some w → chain_fault n c seen b ≡ Some w
unfolding chain_fault
fault_stops zero c seen b w e = e
fault_stops (suc n) c seen b w e = checked_stops (usable c b) (member b seen) w (chain_fault n c (b ∷ seen) (le32 (bytes c b) 0)) e

-- ---- the walk

-- On the way back from the last of n + 1 blocks, with i blocks before the present one: the blocks so far serve, what is wrong
-- with the rest is what is wrong with all, and the blocks behind the present one are stored.
pub record Onward (c : Card) (n head : ℕ) (seen : List ℕ) (s : BlockSet) (i b : ℕ) (ts : List ℕ) : Type 0 where
  pub now_seen : List ℕ
  pub marks : Marks s now_seen
  pub fault : chain_fault n c seen head ≡ chain_fault i c now_seen b
  pub blocks : chain n c head ≡ chain i c b ++ take (n - i) (drop (i + 1) ts)
  pub served : chain n c head ++ seen ≡ chain i c b ++ now_seen

pub onward_none : (c : Card) (n head : ℕ) (seen : List ℕ) (s : BlockSet) (ts : List ℕ) → Marks s seen → Onward c n head seen s n head ts
onward_none c n head seen s ts m = record {
  now_seen = seen;
  marks = m;
  fault = refl;
  blocks = sym (ap (λ (k : ℕ). chain n c head ++ take k (drop (n + 1) ts)) (sub_self n) ∙ append-nil (chain n c head));
  served = refl;
}

-- the block at which the walk stops, since something is wrong with it
pub onward_stops : (c : Card) (n head : ℕ) (seen : List ℕ) (s : BlockSet) (i b : ℕ) (ts : List ℕ) (w : What) → Onward c n head seen s i b ts
    → cond (usable c b) (cond (holds s b) (Some BlockTwice) None) (Some EntryBlock) ≡ Some w → chain_fault n c seen head ≡ Some w
onward_stops c n head seen s i b ts w o e =
    o.fault ∙ fault_stops i c o.now_seen b w (sym (ap (λ v. cond (usable c b) (cond v (Some BlockTwice) None) (Some EntryBlock)) (o.marks b)) ∙ e)

-- what is stored behind the present block, once it is stored too
stored : (n i b : ℕ) (ts : List ℕ) → i ≤ n → i < length ts → b ∷ take (n - i) (drop (i + 1) ts) ≡ take (suc (n - i)) (drop i (set ts i b))
stored n i b ts le lt = sym (ap (take (suc (n - i))) (drop-set ts i b lt))

-- one block more
pub onward_more : (c : Card) (n head : ℕ) (seen : List ℕ) (s t : BlockSet) (i b next : ℕ) (ts : List ℕ) → (i ≡ 0 → ⊥) → i ≤ n → i < length ts → b < 4096
    → usable c b ≡ true → holds s b ≡ false → Inserted s b t → next ≡ le32 (bytes c b) 0 → Onward c n head seen s i b ts → Onward c n head seen t (i - 1) next (set ts i b)
unfolding chain chain_fault
onward_more c n head seen s t zero b next ts some le lt room good new ins is o = absurd (some refl)
onward_more c n head seen s t (suc i) b next ts some le lt room good new ins is o =
    let back : suc i - 1 ≡ i = omega arith in
    let fresh : member b o.now_seen ≡ false = sym (o.marks b) ∙ new in
    let over : suc (n - suc i) ≡ n - i = omega arith in
    let up : i + 1 ≡ suc i = omega arith in
    let here : Onward c n head seen t i next (set ts (suc i) b) =
    record {
      now_seen = b ∷ o.now_seen;
      marks = inserted_marks s t b o.now_seen room o.marks ins;
      fault = o.fault ∙ checked_rest c o.now_seen b (chain_fault i c (b ∷ o.now_seen) (le32 (bytes c b) 0)) good fresh ∙ ap (chain_fault i c (b ∷ o.now_seen)) (sym is);
      blocks =
          o.blocks ∙ append_assoc (chain i c (le32 (bytes c b) 0)) (b ∷ []) (take (n - suc i) (drop (suc i + 1) ts))
          ∙ ap (λ (x : ℕ). chain i c x ++ b ∷ take (n - suc i) (drop (suc i + 1) ts)) (sym is)
          ∙ ap (λ (xs : List ℕ). chain i c next ++ xs) (stored n (suc i) b ts le lt)
          ∙ ap (λ (k : ℕ). chain i c next ++ take k (drop (suc i) (set ts (suc i) b))) over
          ∙ ap (λ (k : ℕ). chain i c next ++ take (n - i) (drop k (set ts (suc i) b))) (sym up);
      served =
          o.served ∙ append_assoc (chain i c (le32 (bytes c b) 0)) (b ∷ []) o.now_seen
          ∙ ap (λ (x : ℕ). chain i c x ++ b ∷ o.now_seen) (sym is);
    } in
    subst (λ (k : ℕ). Onward c n head seen t k next (set ts (suc i) b)) (sym back) here

-- the first block of the file
pub onward_all : (c : Card) (n head : ℕ) (seen : List ℕ) (s t : BlockSet) (i b : ℕ) (ts : List ℕ) → i ≡ 0 → i < length ts → b < 4096
    → usable c b ≡ true → holds s b ≡ false → Inserted s b t → Onward c n head seen s i b ts → (chain_fault n c seen head ≡ None) × Marks t (chain n c head ++ seen) × (take (suc n) (set ts i b) ≡ chain n c head)
unfolding chain chain_fault
onward_all c n head seen s t (suc i) b ts none lt room good new ins o = absurd (omega arith)
onward_all c n head seen s t zero b ts none lt room good new ins o =
    let fresh : member b o.now_seen ≡ false = sym (o.marks b) ∙ new in
    let all : n - 0 ≡ n = omega arith in (
      o.fault ∙ checked_rest c o.now_seen b None good fresh,
      subst (Marks t) (sym o.served) (inserted_marks s t b o.now_seen room o.marks ins),
      ap (λ (k : ℕ). take (suc k) (set ts 0 b)) (sym all) ∙ sym (stored n 0 b ts (omega arith) lt) ∙ sym o.blocks,
    )
