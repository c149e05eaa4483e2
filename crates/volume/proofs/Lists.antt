-- The list of pairs depends only on the blocks of its pairs.
use Rattle.std.proofs.Common.{◌≡◌, ℕ, zero, suc, ◌-◌, true, false, cond, ◌&&◌, eqb, leb, List, ◌∷◌, get_or, Some, None, Ok, Err, Option, Result, sym, refl, ap, ◌∙◌, subst, arith}
use Rattle.std.proofs.lemmas.Bool.{eq-eqb, or_left, or_right}
use Rattle.flash.specs.Card.{Card, bytes}
use Rattle.volume.specs.State.{start, Folded, state, wrong, fold_items, size_of}
use Rattle.volume.specs.Pair.{Pair, finished_of, Choice, first, second, no_commit, no_newer, choice, judged, read_by, read_pair}
use Rattle.volume.specs.Thread.{Next, ends, goes, next_of, serves, member, tail_fault, full_fault, first_of, pair_fault, before, behind, accepted, walked, walk}
use Rattle.volume.specs.Check.{pair_blocks}
use Rattle.volume.specs.declared.fault.Fault.{Fault}
use Rattle.volume.specs.declared.fault.What.{What}
use Rattle.volume.specs.declared.fault.What.TheVariants.{TailTwice, TailBlock, TooFull}

-- nothing is both an answer and a fault
pub no_answer : {A : Type 0} (f : Fault) (x : A) → ◌≡◌ {A = Result A Fault} (Err f) (Ok x) → ⊥
no_answer f x e = let bad : ◌≡◌ {A = ℕ} 0 1 = cc in omega arith

-- an answer is one value
pub same_answer : {A : Type 0} (x y : A) → ◌≡◌ {A = Result A Fault} (Ok x) (Ok y) → x ≡ y
same_answer x y e = cc

-- a pair has the blocks that were asked for
judged_blocks : (a b block : ℕ) (f : Folded) (p : Pair) → judged a b block f ≡ Ok p → (p.a ≡ a) × (p.b ≡ b)
judged_blocks a b block (state s) p e =
    let is : record { a = a; b = b; block = block; state = s } ≡ p = same_answer _ p e in
    (sym (ap (λ (q : Pair). q.a) is), sym (ap (λ (q : Pair). q.b) is))
judged_blocks a b block (wrong at) p e = absurd (no_answer _ p e)

by_blocks : (k : Choice) (c : Card) (a b : ℕ) (p : Pair) → read_by k c a b ≡ Ok p → (p.a ≡ a) × (p.b ≡ b)
by_blocks first c a b p e = judged_blocks a b a (fold_items start (finished_of (bytes c a))) p e
by_blocks second c a b p e = judged_blocks a b b (fold_items start (finished_of (bytes c b))) p e
by_blocks no_commit c a b p e = absurd (no_answer _ p e)
by_blocks no_newer c a b p e = absurd (no_answer _ p e)

pub pair_blocks_lem : (c : Card) (a b : ℕ) (p : Pair) → read_pair c a b ≡ Ok p → (p.a ≡ a) × (p.b ≡ b)
unfolding read_pair
pair_blocks_lem c a b p e = by_blocks (choice (bytes c a) (bytes c b)) c a b p e

-- ---- a pair depends only on its two blocks

by_same : (k : Choice) (c d : Card) (a b : ℕ) → bytes d a ≡ bytes c a → bytes d b ≡ bytes c b → read_by k d a b ≡ read_by k c a b
by_same first c d a b p q = ap (λ xs. judged a b a (fold_items start (finished_of xs))) p
by_same second c d a b p q = ap (λ xs. judged a b b (fold_items start (finished_of xs))) q
by_same no_commit c d a b p q = refl
by_same no_newer c d a b p q = refl

pub pair_same : (c d : Card) (a b : ℕ) → bytes d a ≡ bytes c a → bytes d b ≡ bytes c b → read_pair d a b ≡ read_pair c a b
unfolding read_pair
pair_same c d a b p q =
    ap (λ xs. read_by (choice xs (bytes d b)) d a b) p ∙ ap (λ xs. read_by (choice (bytes c a) xs) d a b) q ∙ by_same (choice (bytes c a) (bytes c b)) c d a b p q

-- ---- what a pair's tail and size may be depends on the card's shape only

-- two cards of one shape
pub record Shape (c d : Card) : Type 0 where
  pub size : d.size ≡ c.size
  pub good : d.good ≡ c.good

fault_same : (c d : Card) (seen : List ℕ) (p : Pair) → Shape c d → pair_fault d seen p ≡ pair_fault c seen p
unfolding pair_fault
fault_same c d seen p s =
    ap (λ n. first_of (tail_fault d seen (next_of p.state.tail)) (cond (leb (size_of p.state.entries) (n - 40)) None (Some TooFull))) s.size
    ∙ ap (λ w. first_of w (full_fault c p.state)) (tail_same (next_of p.state.tail))
  where
    tail_same : (n : Next) → tail_fault d seen n ≡ tail_fault c seen n
    tail_same ends = refl
    tail_same (goes a b) = ap (λ g. cond (get_or g a false && get_or g b false) (cond (serves seen a b) (Some TailTwice) None) (Some TailBlock)) s.good

-- ---- the list

abbrev pub Same : List ℕ → Card → Card → Type 0
Same bs c d = (x : ℕ) → member x bs ≡ true → bytes d x ≡ bytes c x

pub head_member : (x : ℕ) (xs : List ℕ) → member x (x ∷ xs) ≡ true
head_member x xs = or_left (eqb x x) (member x xs) (eq-eqb x x refl)

pub tail_member : (x y : ℕ) (xs : List ℕ) → member x xs ≡ true → member x (y ∷ xs) ≡ true
tail_member x y xs h = or_right (eqb x y) (member x xs) h

-- what follows from a pair that was read, if it comes to a list
pub record Follows (c : Card) (seen : List ℕ) (go : ℕ → ℕ → Result (List Pair) Fault) (r : Result Pair Fault) (ps : List Pair) : Type 0 where
  pub p : Pair
  pub rest : List Pair
  pub read : r ≡ Ok p
  pub fine : pair_fault c seen p ≡ None
  pub next : behind go (next_of p.state.tail) ≡ Ok rest
  pub is : ps ≡ p ∷ rest

before_ok : (p : Pair) (r : Result (List Pair) Fault) (ps : List Pair) → before p r ≡ Ok ps → (rest : List Pair) × ((r ≡ Ok rest) × (ps ≡ p ∷ rest))
before_ok p (Ok rest) ps e = (rest, (refl, sym (same_answer (p ∷ rest) ps e)))
before_ok p (Err f) ps e = absurd (no_answer f ps e)

pub follows : (c : Card) (seen : List ℕ) (go : ℕ → ℕ → Result (List Pair) Fault) (r : Result Pair Fault) (ps : List Pair) → walked c seen go r ≡ Ok ps → Follows c seen go r ps
follows c seen go (Err f) ps e = absurd (no_answer f ps e)
follows c seen go (Ok p) ps e = by (pair_fault c seen p) refl e
  where
    by : (w : Option What) → pair_fault c seen p ≡ w → accepted w p (behind go (next_of p.state.tail)) ≡ Ok ps → Follows c seen go (Ok p) ps
    by (Some w) h k = absurd (no_answer _ ps k)
    by None h k =
        let b = before_ok p (behind go (next_of p.state.tail)) ps k in
        record { p = p; rest = b.0; read = refl; fine = h; next = b.1.0; is = b.1.1 }

-- the rest of the list, where the walk goes on as before
behind_same : (there here : ℕ → ℕ → Result (List Pair) Fault) (n : Next) (rest : List Pair) → ((a b : ℕ) → there a b ≡ Ok rest → here a b ≡ Ok rest) → behind there n ≡ Ok rest → behind here n ≡ Ok rest
behind_same there here ends rest f e = e
behind_same there here (goes a b) rest f e = f a b e

pub walk_same : (n : ℕ) (c d : Card) (seen : List ℕ) (a b : ℕ) (ps : List Pair) → Shape c d → walk n c seen a b ≡ Ok ps → Same (pair_blocks ps) c d → walk n d seen a b ≡ Ok ps
unfolding walk
walk_same zero c d seen a b ps s e h = absurd (no_answer _ ps e)
walk_same (suc n) c d seen a b ps s e h =
    let there : (a' b' : ℕ) → Result (List Pair) Fault = λ a' b'. walk n c (a' ∷ b' ∷ seen) a' b' in
    let here : (a' b' : ℕ) → Result (List Pair) Fault = λ a' b'. walk n d (a' ∷ b' ∷ seen) a' b' in
    let f = follows c seen there (read_pair c a b) ps e in
    let p = f.p in
    let tail = next_of p.state.tail in
    let all : Same (p.a ∷ p.b ∷ pair_blocks f.rest) c d = subst (λ qs. Same (pair_blocks qs) c d) f.is h in
    let blocks = pair_blocks_lem c a b p f.read in
    let in_a : bytes d a ≡ bytes c a = subst (λ x. bytes d x ≡ bytes c x) blocks.0 (all p.a (head_member p.a (p.b ∷ pair_blocks f.rest))) in
    let in_b : bytes d b ≡ bytes c b = subst (λ x. bytes d x ≡ bytes c x) blocks.1 (all p.b (tail_member p.b p.a (p.b ∷ pair_blocks f.rest) (head_member p.b (pair_blocks f.rest)))) in
    let others : Same (pair_blocks f.rest) c d = λ x k. all x (tail_member x p.a (p.b ∷ pair_blocks f.rest) (tail_member x p.b (pair_blocks f.rest) k)) in
    let read : read_pair d a b ≡ Ok p = pair_same c d a b in_a in_b ∙ f.read in
    let rest : behind here tail ≡ Ok f.rest = behind_same there here tail f.rest (λ a' b' k. walk_same n c d (a' ∷ b' ∷ seen) a' b' f.rest s k others) f.next in
    ap (walked d seen here) read
    ∙ ap (λ w. accepted w p (behind here tail)) (fault_same c d seen p s ∙ f.fine)
    ∙ ap (before p) rest ∙ ap Ok (sym f.is)
