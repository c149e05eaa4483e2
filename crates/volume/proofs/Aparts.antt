-- No block serves twice: each is met once, in the list or in a file.
use Rattle.std.proofs.Common.{◌≡◌, ℕ, zero, suc, ◌-◌, Bool, true, false, cond, ◌&&◌, ◌||◌, eqb, List, [], ◌∷◌, ◌++◌, Some, None, Ok, Option, Result, sym, refl, ap, ◌∙◌, subst, inl, inr, arith}
use Rattle.std.proofs.lemmas.Bool.{both_ways, or_cases, or_parts, or_from, eqb-true, cases_Bool}
use Rattle.flash.specs.Card.{Card, bytes}
use Rattle.metalog.specs.Tag.{le32}
use Rattle.skiplist.specs.Places.{block_of}
use Rattle.volume.specs.Pair.{Pair, read_pair}
use Rattle.volume.specs.Thread.{Next, ends, goes, next_of, usable, serves, member, tail_fault, full_fault, first_of, pair_fault, behind, walk}
use Rattle.volume.specs.Files.{chain, checked, chain_fault, word_fault, file_blocks, file_fault}
use Rattle.volume.specs.Check.{pair_blocks}
use Rattle.volume.specs.Laws.{Apart}
use Rattle.volume.specs.declared.fault.Fault.{Fault}
use Rattle.volume.specs.declared.fault.What.{What}
use Rattle.volume.specs.declared.fault.What.TheVariants.{TailTwice, TailBlock, BlockTwice, EntryBlock}
use Rattle.volume.proofs.Lists.{no_answer, same_answer, follows, pair_blocks_lem, head_member, tail_member}

-- ---- lists that are apart

-- nothing of xs is in ys
abbrev pub Clear : List ℕ → List ℕ → Type 0
Clear xs ys = (x : ℕ) → member x xs ≡ true → member x ys ≡ false

-- what is not in a list, by what would follow
pub not_member : (x : ℕ) (xs : List ℕ) → (member x xs ≡ true → ⊥) → member x xs ≡ false
not_member x xs f = elim (cases_Bool (member x xs)) [ inl e ↦ absurd (f e) | inr e ↦ e ]

pub member_append : (x : ℕ) (xs ys : List ℕ) → member x xs ≡ false → member x ys ≡ false → member x (xs ++ ys) ≡ false
member_append x [] ys p q = q
member_append x (y ∷ xs) ys p q = let both = or_parts (eqb x y) (member x xs) p in or_from (eqb x y) (member x (xs ++ ys)) both.0 (member_append x xs ys both.1 q)

pub apart_append : (xs ys : List ℕ) → Apart xs → Apart ys → Clear xs ys → Apart (xs ++ ys)
apart_append [] ys p q k = q
apart_append (x ∷ xs) ys p q k = (member_append x xs ys p.0 (k x (head_member x xs)), apart_append xs ys p.1 q (λ y h. k y (tail_member y x xs h)))

-- ---- the list of pairs

-- a pair whose tail is as it should be leads to two new blocks
tail_clear : (c : Card) (seen : List ℕ) (a b : ℕ) → tail_fault c seen (goes a b) ≡ None → (member a seen ≡ false) × ((member b seen ≡ false) × (eqb a b ≡ false))
tail_clear c seen a b e = by (usable c a && usable c b) (serves seen a b) refl e
  where
    by : (u v : Bool) → serves seen a b ≡ v → cond u (cond v (Some TailTwice) None) (Some TailBlock) ≡ None → (member a seen ≡ false) × ((member b seen ≡ false) × (eqb a b ≡ false))
    by false v h k = let bad : ◌≡◌ {A = ℕ} 0 1 = cc in absurd (omega arith)
    by true true h k = let bad : ◌≡◌ {A = ℕ} 0 1 = cc in absurd (omega arith)
    by true false h k =
        let p = or_parts (member a seen) (member b seen || eqb a b) h in
        let q = or_parts (member b seen) (eqb a b) p.1 in
        (p.0, (q.0, q.1))

first_none : (v w : Option What) → first_of v w ≡ None → v ≡ None
first_none None w e = refl
first_none (Some x) w e = e

fault_clear : (c : Card) (seen : List ℕ) (p : Pair) (a b : ℕ) → next_of p.state.tail ≡ goes a b → pair_fault c seen p ≡ None → (member a seen ≡ false) × ((member b seen ≡ false) × (eqb a b ≡ false))
unfolding pair_fault
fault_clear c seen p a b n e = tail_clear c seen a b (ap (tail_fault c seen) (sym n) ∙ first_none (tail_fault c seen (next_of p.state.tail)) (full_fault c p.state) e)

-- two new blocks in front of others
in_front_lem : (a b : ℕ) (older bs : List ℕ) → eqb a b ≡ false → member a older ≡ false → member b older ≡ false → Apart bs → Clear bs (a ∷ b ∷ older) → Apart (a ∷ b ∷ bs) × Clear (a ∷ b ∷ bs) older
in_front_lem a b older bs ne na nb p k =
    let out_a : member a bs ≡ false = not_member a bs (λ h. both_ways (member a (a ∷ b ∷ older)) (k a h) (head_member a (b ∷ older))) in
    let out_b : member b bs ≡ false = not_member b bs (λ h. both_ways (member b (a ∷ b ∷ older)) (k b h) (tail_member b a (b ∷ older) (head_member b older))) in
    let clear : Clear (a ∷ b ∷ bs) older = λ x h. elim (or_cases (eqb x a) (eqb x b || member x bs) h) [
      | inl e ↦ subst (λ y. member y older ≡ false) (sym (eqb-true x a e)) na
      | inr h1 ↦ elim (or_cases (eqb x b) (member x bs) h1) [
        | inl e ↦ subst (λ y. member y older ≡ false) (sym (eqb-true x b e)) nb
        | inr e ↦ (or_parts (eqb x b) (member x older) (or_parts (eqb x a) (eqb x b || member x older) (k x e)).1).1
      ]
    ] in
    ((or_from (eqb a b) (member a bs) ne out_a, (out_b, p)), clear)

-- what comes behind a pair is apart, and none of it came before
behind_apart : (c : Card) (seen : List ℕ) (p : Pair) (go : ℕ → ℕ → Result (List Pair) Fault) (n : Next) (rest : List Pair) → next_of p.state.tail ≡ n → pair_fault c seen p ≡ None → behind go n ≡ Ok rest
    → ((a b : ℕ) → go a b ≡ Ok rest → eqb a b ≡ false → member a seen ≡ false → member b seen ≡ false → Apart (pair_blocks rest) × Clear (pair_blocks rest) seen)
    → Apart (pair_blocks rest) × Clear (pair_blocks rest) seen
behind_apart c seen p go ends rest e f g h =
    subst (λ qs. Apart (pair_blocks qs) × Clear (pair_blocks qs) seen) (same_answer [] rest g) (tt, λ x k. let bad : ◌≡◌ {A = ℕ} 0 1 = cc in absurd (omega arith))
behind_apart c seen p go (goes a b) rest e f g h = let q = fault_clear c seen p a b e f in h a b g q.1.1 q.0 q.1.0

-- the blocks of the pairs from a pair on, which is new, are apart, and none of them came before
pub walk_apart : (n : ℕ) (c : Card) (older : List ℕ) (a b : ℕ) (ps : List Pair) → walk n c (a ∷ b ∷ older) a b ≡ Ok ps → eqb a b ≡ false → member a older ≡ false → member b older ≡ false
    → Apart (pair_blocks ps) × Clear (pair_blocks ps) older
unfolding walk
walk_apart zero c older a b ps e ne na nb = absurd (no_answer _ ps e)
walk_apart (suc n) c older a b ps e ne na nb =
    let seen = a ∷ b ∷ older in
    let go : (a' b' : ℕ) → Result (List Pair) Fault = λ a' b'. walk n c (a' ∷ b' ∷ seen) a' b' in
    let f = follows c seen go (read_pair c a b) ps e in
    let bs = pair_blocks f.rest in
    let blocks = pair_blocks_lem c a b f.p f.read in
    let rest = behind_apart c seen f.p go (next_of f.p.state.tail) f.rest refl f.fine f.next (λ a' b' k n1 n2 n3. walk_apart n c seen a' b' f.rest k n1 n2 n3) in
    subst (λ qs. Apart (pair_blocks qs) × Clear (pair_blocks qs) older) (sym f.is)
    (subst (λ x. Apart (x ∷ f.p.b ∷ bs) × Clear (x ∷ f.p.b ∷ bs) older) (sym blocks.0)
    (subst (λ y. Apart (a ∷ y ∷ bs) × Clear (a ∷ y ∷ bs) older) (sym blocks.1) (in_front_lem a b older bs ne na nb rest.0 rest.1)))

-- ---- the blocks of a file

checked_none : (c : Card) (seen : List ℕ) (h : ℕ) (r : Option What) → checked c seen h r ≡ None → (member h seen ≡ false) × (r ≡ None)
checked_none c seen h r e = by (usable c h) (member h seen) refl e
  where
    by : (u v : Bool) → member h seen ≡ v → cond u (cond v (Some BlockTwice) r) (Some EntryBlock) ≡ None → (member h seen ≡ false) × (r ≡ None)
    by false v k f = let bad : ◌≡◌ {A = ℕ} 0 1 = cc in absurd (omega arith)
    by true true k f = let bad : ◌≡◌ {A = ℕ} 0 1 = cc in absurd (omega arith)
    by true false k f = (k, f)

pub chain_apart : (n : ℕ) (c : Card) (seen : List ℕ) (h : ℕ) → chain_fault n c seen h ≡ None → Apart (chain n c h) × Clear (chain n c h) seen
unfolding chain chain_fault
chain_apart zero c seen h e =
    let fresh = (checked_none c seen h None e).0 in
    ((refl, tt), λ x k. elim (or_cases (eqb x h) false k) [ inl q ↦ subst (λ y. member y seen ≡ false) (sym (eqb-true x h q)) fresh | inr q ↦ (let bad : ◌≡◌ {A = ℕ} 0 1 = cc in absurd (omega arith)) ])
chain_apart (suc n) c seen h e =
    let next = le32 (bytes c h) 0 in
    let xs = chain n c next in
    let both = checked_none c seen h (chain_fault n c (h ∷ seen) next) e in
    let rest = chain_apart n c (h ∷ seen) next both.1 in
    let last : Clear xs (h ∷ []) = λ x k. or_from (eqb x h) false (or_parts (eqb x h) (member x seen) (rest.1 x k)).0 refl in (
      apart_append xs (h ∷ []) rest.0 (refl, tt) last,
      λ x k. elim (cases_Bool (member x xs)) [
        | inl q ↦ (or_parts (eqb x h) (member x seen) (rest.1 x q)).1
        | inr q ↦ elim (cases_Bool (eqb x h)) [
          | inl w ↦ subst (λ y. member y seen ≡ false) (sym (eqb-true x h w)) both.0
          | inr w ↦ absurd (both_ways (member x (xs ++ h ∷ [])) (member_append x xs (h ∷ []) q (or_from (eqb x h) false w refl)) k)
        ]
      ],
    )

pub file_apart : (c : Card) (seen : List ℕ) (h size : ℕ) → file_fault c seen h size ≡ None → Apart (file_blocks c h size) × Clear (file_blocks c h size) seen
unfolding file_fault
file_apart c seen h size e = chain_apart (block_of c.size (size - 1)) c seen h (first_none (chain_fault (block_of c.size (size - 1)) c seen h) (word_fault c (file_blocks c h size)) e)
