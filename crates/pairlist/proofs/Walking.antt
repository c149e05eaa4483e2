-- The walk of the list, pair by pair: what is still to be walked makes the whole list.
use Rattle.std.proofs.Common.{◌≡◌, ℕ, suc, ◌+◌, ◌-◌, ◌*◌, ◌<◌, ◌≤◌, Bool, true, false, cond, ◌&&◌, ◌||◌, eqb, List, [], ◌∷◌, ◌++◌, length, Some, None, Ok, Err, Option, Result, sym, refl, ap, ◌∙◌, subst, inl, inr, append_assoc, arith, length-append}
use Rattle.std.proofs.lemmas.List.{get_or_past}
use Rattle.std.proofs.lemmas.Bool.{or_cases, or_from, eqb-true, eq-eqb, cases_lt}
use Rattle.flash.specs.Card.{Card, Shaped, is_good}
use Rattle.volume.specs.Pair.{Pair, fault, read_pair}
use Rattle.volume.specs.Thread.{ends, goes, next_of, usable, member, tail_fault, full_fault, first_of, pair_fault, before, behind, accepted, walked, walk, thread}
use Rattle.volume.specs.Check.{pair_blocks}
use Rattle.volume.specs.Laws.{Apart}
use Rattle.volume.specs.declared.fault.Fault.{Fault}
use Rattle.volume.specs.declared.fault.What.{What}
use Rattle.volume.specs.declared.fault.What.TheVariants.{TailTwice, TailBlock}
use Rattle.volume.proofs.Lists.{pair_blocks_lem}
use Rattle.pairlist.specs.Visits.{allowed, visited_by, visited}
use Rattle.pairlist.specs.Walks.{root}
use Rattle.pairlist.proofs.Members.{members_few}

-- pairs in front of what the walk gives
abbrev pub prefixed : List Pair → Result (List Pair) Fault → Result (List Pair) Fault
prefixed ps (Ok qs) = Ok (ps ++ qs)
prefixed ps (Err f) = Err f

prefixed_before : (ps : List Pair) (p : Pair) (r : Result (List Pair) Fault) → prefixed ps (before p r) ≡ prefixed (ps ++ p ∷ []) r
prefixed_before ps p (Ok qs) = ap Ok (sym (append_assoc ps (p ∷ []) qs))
prefixed_before ps p (Err f) = refl

-- The pairs ps were walked, the next is that of the blocks a and b, and `seen` are the blocks of all of them.
pub record Going (c : Card) (ps : List Pair) (seen : List ℕ) (a b n : ℕ) : Type 0 where
  pub rest : thread c ≡ prefixed ps (walk n c seen a b)
  pub fuel : length ps + n ≡ length c.blocks
  pub apart : Apart seen
  pub long : length seen ≡ 2 * length ps + 2
  pub below : (x : ℕ) → member x seen ≡ true → x < length c.blocks
  pub blocks : (x : ℕ) → member x seen ≡ (member x (pair_blocks ps) || (eqb x a || (eqb x b || false)))

-- the walk begins
pub going_start : (c : Card) → 8 ≤ length c.blocks → Going c [] root 0 1 (length c.blocks)
going_start c h = record {
  rest = as_it_is (walk (length c.blocks) c root 0 1);
  fuel = omega arith;
  apart = (refl, (refl, tt));
  long = refl;
  below = λ x e. elim (or_cases (eqb x 0) (eqb x 1 || false) e) [
    | inl q ↦ omega (arith, eqb-true x 0 q)
    | inr q ↦ elim (or_cases (eqb x 1) false q) [ inl r ↦ omega (arith, eqb-true x 1 r) | inr r ↦ (let bad : ◌≡◌ {A = ℕ} 0 1 = cc in absurd (omega arith)) ]
  ];
  blocks = λ x. refl;
}
  where
    as_it_is : (r : Result (List Pair) Fault) → r ≡ prefixed [] r
    as_it_is (Ok qs) = refl
    as_it_is (Err f) = refl

-- each pair has two blocks of its own, so the walk is never out of turns
pub going_left : (c : Card) (ps : List Pair) (seen : List ℕ) (a b n : ℕ) → Going c ps seen a b n → (n ≡ suc (n - 1)) × (2 * length ps + 2 ≤ length c.blocks)
going_left c ps seen a b n g =
    let few = members_few (length c.blocks) seen g.apart g.below in
    (omega (arith, few, g.long, g.fuel), omega (arith, few, g.long))

-- one turn of the walk
turn : (c : Card) (ps : List Pair) (seen : List ℕ) (a b n : ℕ) → Going c ps seen a b n → thread c ≡ prefixed ps (walked c seen (λ a' b'. walk (n - 1) c (a' ∷ b' ∷ seen) a' b') (read_pair c a b))
unfolding walk
turn c ps seen a b n g = g.rest ∙ ap (λ k. prefixed ps (walk k c seen a b)) (going_left c ps seen a b n g).0

-- the walk by what the pair is
by_visited : (c : Card) (seen : List ℕ) (go : ℕ → ℕ → Result (List Pair) Fault) (r : Result Pair Fault) (p : Pair) → visited_by c seen r ≡ Ok p → (r ≡ Ok p) × ((pair_fault c seen p ≡ None) × (walked c seen go r ≡ before p (behind go (next_of p.state.tail))))
by_visited c seen go (Err f) p e = let bad : ◌≡◌ {A = ℕ} 0 1 = cc in absurd (omega arith)
by_visited c seen go (Ok q) p e = by (pair_fault c seen q) refl e
  where
    by : (w : Option What) → pair_fault c seen q ≡ w → allowed w q ≡ Ok p → (◌≡◌ {A = Result Pair Fault} (Ok q) (Ok p)) × ((pair_fault c seen p ≡ None) × (accepted (pair_fault c seen q) q (behind go (next_of q.state.tail)) ≡ before p (behind go (next_of p.state.tail))))
    by (Some w) h k = let bad : ◌≡◌ {A = ℕ} 0 1 = cc in absurd (omega arith)
    by None h k =
        let is : q ≡ p = cc in
        (k, (subst (λ v. pair_fault c seen v ≡ None) is h, ap (λ w. accepted w q (behind go (next_of q.state.tail))) h ∙ ap (λ v. before v (behind go (next_of v.state.tail))) is))

-- a pair that was visited was read
pub visited_read : (c : Card) (seen : List ℕ) (a b : ℕ) (p : Pair) → visited c seen a b ≡ Ok p → read_pair c a b ≡ Ok p
visited_read c seen a b p e = (by_visited c seen (λ x y. Ok []) (read_pair c a b) p e).0

by_fault : (c : Card) (seen : List ℕ) (go : ℕ → ℕ → Result (List Pair) Fault) (r : Result Pair Fault) (f : Fault) → visited_by c seen r ≡ Err f → walked c seen go r ≡ Err f
by_fault c seen go (Err g) f e = let is : g ≡ f = cc in ap Err is
by_fault c seen go (Ok q) f e = by (pair_fault c seen q) refl e
  where
    by : (w : Option What) → pair_fault c seen q ≡ w → allowed w q ≡ Err f → accepted (pair_fault c seen q) q (behind go (next_of q.state.tail)) ≡ Err f
    by None h k = let bad : ◌≡◌ {A = ℕ} 0 1 = cc in absurd (omega arith)
    by (Some w) h k = let is : fault w q.block 0 ≡ f = cc in ap (λ v. accepted v q (behind go (next_of q.state.tail))) h ∙ ap Err is

-- a pair that is not as it should be ends the walk
pub going_fault : (c : Card) (ps : List Pair) (seen : List ℕ) (a b n : ℕ) (f : Fault) → Going c ps seen a b n → visited c seen a b ≡ Err f → thread c ≡ Err f
going_fault c ps seen a b n f g e = turn c ps seen a b n g ∙ ap (prefixed ps) (by_fault c seen (λ a' b'. walk (n - 1) c (a' ∷ b' ∷ seen) a' b') (read_pair c a b) f e)

-- the blocks of one pair more
pair_blocks_more : (x : ℕ) (ps : List Pair) (p : Pair) → member x (pair_blocks (ps ++ p ∷ [])) ≡ (member x (pair_blocks ps) || (eqb x p.a || (eqb x p.b || false)))
pair_blocks_more x [] p = refl
pair_blocks_more x (q ∷ ps) p =
    ap (λ v. eqb x q.a || (eqb x q.b || v)) (pair_blocks_more x ps p) ∙ regroup (eqb x q.a) (eqb x q.b) (member x (pair_blocks ps)) (eqb x p.a || (eqb x p.b || false))
  where
    regroup : (s t u v : Bool) → (s || (t || (u || v))) ≡ ((s || (t || u)) || v)
    regroup true t u v = refl
    regroup false true u v = refl
    regroup false false u v = refl

-- the blocks seen are those of the pairs walked, with this one
pub seen_blocks : (c : Card) (ps : List Pair) (seen : List ℕ) (a b n : ℕ) (p : Pair) → Going c ps seen a b n → visited c seen a b ≡ Ok p → (x : ℕ) → member x seen ≡ member x (pair_blocks (ps ++ p ∷ []))
seen_blocks c ps seen a b n p g e x =
    let read = (by_visited c seen (λ a' b'. walk (n - 1) c (a' ∷ b' ∷ seen) a' b') (read_pair c a b) p e).0 in
    let named = pair_blocks_lem c a b p read in
    g.blocks x ∙ ap (λ y. member x (pair_blocks ps) || (eqb x y || (eqb x b || false))) (sym named.0) ∙ ap (λ y. member x (pair_blocks ps) || (eqb x p.a || (eqb x y || false))) (sym named.1) ∙ sym (pair_blocks_more x ps p)

-- a pair without a further one ends the list
pub going_end : (c : Card) (ps : List Pair) (seen : List ℕ) (a b n : ℕ) (p : Pair) → Going c ps seen a b n → visited c seen a b ≡ Ok p → next_of p.state.tail ≡ ends → thread c ≡ Ok (ps ++ p ∷ [])
going_end c ps seen a b n p g e last =
    let go : (a' b' : ℕ) → Result (List Pair) Fault = λ a' b'. walk (n - 1) c (a' ∷ b' ∷ seen) a' b' in
    turn c ps seen a b n g ∙ ap (prefixed ps) ((by_visited c seen go (read_pair c a b) p e).1.1 ∙ ap (λ k. before p (behind go k)) last)

-- what the tail of a pair that is as it should be names
abbrev pub Fresh : Card → List ℕ → ℕ → ℕ → Type 0
Fresh c seen a b = (usable c a ≡ true) × (usable c b ≡ true) × (member a seen ≡ false) × (member b seen ≡ false) × (eqb a b ≡ false)

pub fresh : (c : Card) (seen : List ℕ) (p : Pair) (a b : ℕ) → next_of p.state.tail ≡ goes a b → pair_fault c seen p ≡ None → Fresh c seen a b
unfolding pair_fault
fresh c seen p a b next none =
    by (usable c a) (usable c b) (member a seen) (member b seen) (eqb a b) refl refl refl refl refl (ap (tail_fault c seen) (sym next) ∙ tail_none (tail_fault c seen (next_of p.state.tail)) none)
  where
    tail_none : (v : Option What) → first_of v (full_fault c p.state) ≡ None → v ≡ None
    tail_none None e = refl
    tail_none (Some w) e = e

    by : (u v s t q : Bool) → usable c a ≡ u → usable c b ≡ v → member a seen ≡ s → member b seen ≡ t → eqb a b ≡ q → cond (u && v) (cond (s || (t || q)) (Some TailTwice) None) (Some TailBlock) ≡ None → Fresh c seen a b
    by true true false false false h1 h2 h3 h4 h5 e = (h1, h2, h3, h4, h5)
    by true true false false true h1 h2 h3 h4 h5 e = let bad : ◌≡◌ {A = ℕ} 0 1 = cc in absurd (omega arith)
    by true true false true q h1 h2 h3 h4 h5 e = let bad : ◌≡◌ {A = ℕ} 0 1 = cc in absurd (omega arith)
    by true true true t q h1 h2 h3 h4 h5 e = let bad : ◌≡◌ {A = ℕ} 0 1 = cc in absurd (omega arith)
    by true false s t q h1 h2 h3 h4 h5 e = let bad : ◌≡◌ {A = ℕ} 0 1 = cc in absurd (omega arith)
    by false v s t q h1 h2 h3 h4 h5 e = let bad : ◌≡◌ {A = ℕ} 0 1 = cc in absurd (omega arith)

-- a good block is one of the card
pub good_below : (c : Card) → Shaped c → (x : ℕ) → is_good c x ≡ true → x < length c.blocks
good_below c s x e = elim (cases_lt x (length c.good)) [ inl h ↦ omega (arith, s.marked, h) | inr h ↦ (let none = get_or_past c.good x false h in let bad : ◌≡◌ {A = ℕ} 0 1 = cc in absurd (omega arith)) ]

-- the list goes on with the pair that the tail names
pub going_more : (c : Card) (ps : List Pair) (seen : List ℕ) (a b n : ℕ) (p : Pair) (a' b' : ℕ) → Shaped c → Going c ps seen a b n → visited c seen a b ≡ Ok p → next_of p.state.tail ≡ goes a' b'
    → Going c (ps ++ p ∷ []) (a' ∷ b' ∷ seen) a' b' (n - 1)
going_more c ps seen a b n p a' b' s g e next =
    let go : (x y : ℕ) → Result (List Pair) Fault = λ x y. walk (n - 1) c (x ∷ y ∷ seen) x y in
    let v = by_visited c seen go (read_pair c a b) p e in
    let new = fresh c seen p a' b' next v.1.0 in
    record {
      rest = turn c ps seen a b n g ∙ ap (prefixed ps) (v.1.1 ∙ ap (λ k. before p (behind go k)) next) ∙ prefixed_before ps p (go a' b');
      fuel = omega (arith, g.fuel, (going_left c ps seen a b n g).0, length-append ps (p ∷ []));
      apart = (or_from (eqb a' b') (member a' seen) new.4 new.2, (new.3, g.apart));
      long = omega (arith, g.long, length-append ps (p ∷ []));
      below = λ x k. elim (or_cases (eqb x a') (eqb x b' || member x seen) k) [
        | inl q ↦ subst (λ y. y < length c.blocks) (sym (eqb-true x a' q)) (good_below c s a' new.0)
        | inr q ↦ elim (or_cases (eqb x b') (member x seen) q) [
          | inl r ↦ subst (λ y. y < length c.blocks) (sym (eqb-true x b' r)) (good_below c s b' new.1)
          | inr r ↦ g.below x r
        ]
      ];
      blocks = λ x. ap (λ w. eqb x a' || (eqb x b' || w)) (seen_blocks c ps seen a b n p g e x) ∙ turned (eqb x a') (eqb x b') (member x (pair_blocks (ps ++ p ∷ [])));
    }
  where
    turned : (s t u : Bool) → (s || (t || u)) ≡ (u || (s || (t || false)))
    turned true true true = refl
    turned true true false = refl
    turned true false true = refl
    turned true false false = refl
    turned false true true = refl
    turned false true false = refl
    turned false false true = refl
    turned false false false = refl

-- the pair at which the walk stands is one of the card
pub going_here : (c : Card) (ps : List Pair) (seen : List ℕ) (a b n : ℕ) → Going c ps seen a b n → (a < length c.blocks) × (b < length c.blocks)
going_here c ps seen a b n g = (g.below a (g.blocks a ∙ is_a), g.below b (g.blocks b ∙ is_b))
  where
    last : (u v : Bool) → (u || (v || (true || false))) ≡ true
    last true v = refl
    last false true = refl
    last false false = refl

    mid : (u v : Bool) → (u || (true || v)) ≡ true
    mid true v = refl
    mid false v = refl

    is_a : (member a (pair_blocks ps) || (eqb a a || (eqb a b || false))) ≡ true
    is_a = ap (λ w. member a (pair_blocks ps) || (w || (eqb a b || false))) (eq-eqb a a refl) ∙ mid (member a (pair_blocks ps)) (eqb a b || false)

    is_b : (member b (pair_blocks ps) || (eqb b a || (eqb b b || false))) ≡ true
    is_b = ap (λ w. member b (pair_blocks ps) || (eqb b a || (w || false))) (eq-eqb b b refl) ∙ last (member b (pair_blocks ps)) (eqb b a)
