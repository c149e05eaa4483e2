-- Each pair of the list, read again, is the same pair.
use Rattle.std.proofs.Common.{◌≡◌, ℕ, zero, suc, ◌<◌, List, [], ◌∷◌, length, Some, None, Ok, Result, sym, refl, ap, ◌∙◌, subst, arith}
use Rattle.std.specs.List.{slice_get}
use Rattle.flash.specs.Card.{Card, Shaped}
use Rattle.volume.specs.Pair.{Pair, read_pair}
use Rattle.volume.specs.Thread.{Next, ends, goes, next_of, pair_fault, behind, walk, thread}
use Rattle.volume.specs.declared.fault.Fault.{Fault}
use Rattle.volume.proofs.Lists.{no_answer, same_answer, follows, pair_blocks_lem}
use Rattle.pairlist.specs.Walks.{root}
use Rattle.pairlist.proofs.Walking.{fresh, good_below}

-- a pair that is read from two blocks of the card
pub record Rereads (c : Card) (p : Pair) : Type 0 where
  pub read : read_pair c p.a p.b ≡ Ok p
  pub first : p.a < length c.blocks
  pub second : p.b < length c.blocks

walk_rereads : (n : ℕ) (c : Card) (seen : List ℕ) (a b : ℕ) (ps : List Pair) (k : ℕ) (p : Pair) → Shaped c → a < length c.blocks → b < length c.blocks → walk n c seen a b ≡ Ok ps → slice_get ps k ≡ Some p → Rereads c p
unfolding walk
walk_rereads zero c seen a b ps k p s la lb e h = absurd (no_answer _ ps e)
walk_rereads (suc n) c seen a b ps k p s la lb e h =
    let go : (x y : ℕ) → Result (List Pair) Fault = λ x y. walk n c (x ∷ y ∷ seen) x y in
    let f = follows c seen go (read_pair c a b) ps e in
    let named = pair_blocks_lem c a b f.p f.read in
    let here : Rereads c f.p = record {
      read = ap (λ x. read_pair c x f.p.b) named.0 ∙ ap (read_pair c a) named.1 ∙ f.read;
      first = subst (λ x. x < length c.blocks) (sym named.0) la;
      second = subst (λ x. x < length c.blocks) (sym named.1) lb;
    } in
    by f.p f.rest here (next_of f.p.state.tail) refl f.fine f.next k (sym (ap (λ qs. slice_get qs k) f.is) ∙ h)
    (λ x y rest j lx ly w g. walk_rereads n c (x ∷ y ∷ seen) x y rest j p s lx ly w g)
  where
    by : (q : Pair) (rest : List Pair) → Rereads c q → (t : Next) → next_of q.state.tail ≡ t → pair_fault c seen q ≡ None → behind (λ x y. walk n c (x ∷ y ∷ seen) x y) t ≡ Ok rest → (j : ℕ) → slice_get (q ∷ rest) j ≡ Some p
        → ((x y : ℕ) (rest : List Pair) (j : ℕ) → x < length c.blocks → y < length c.blocks → walk n c (x ∷ y ∷ seen) x y ≡ Ok rest → slice_get rest j ≡ Some p → Rereads c p) → Rereads c p
    by q rest here t is fine next zero g more = let same : q ≡ p = cc in subst (Rereads c) same here
    by q rest here ends is fine next (suc j) g more = let none : [] ≡ rest = same_answer [] rest next in let bad : ◌≡◌ {A = ℕ} 0 1 = cc (ap (λ qs. slice_get qs j) none) in absurd (omega arith)
    by q rest here (goes x y) is fine next (suc j) g more =
        let new = fresh c seen q x y is fine in
        more x y rest j (good_below c s x new.0) (good_below c s y new.1) next g

pub list_rereads : (c : Card) (ps : List Pair) (k : ℕ) (p : Pair) → Shaped c → 1 < length c.blocks → thread c ≡ Ok ps → slice_get ps k ≡ Some p → Rereads c p
list_rereads c ps k p s h e f = walk_rereads (length c.blocks) c root 0 1 ps k p s (omega arith) h e f
