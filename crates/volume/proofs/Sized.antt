-- The sizes of the skip-list files in a pair's state: each is from 1 to 1048576, since a tag with another one is refused.
use Rattle.std.proofs.Common.{◌≡◌, ℕ, zero, suc, ◌+◌, ◌-◌, Bool, true, false, cond, eqb, ltb, leb, List, [], ◌∷◌, length, get_or, take, drop, replicate, Some, None, Ok, Option, refl, subst, arith}
use Rattle.std.specs.List.{AllByRecursion}
use Rattle.std.proofs.ByRecursion.{All-append, All-set, All-take, All-drop}
use Rattle.std.proofs.lemmas.Bool.{and_parts, leb-true}
use Rattle.flash.specs.Card.{Card, bytes}
use Rattle.metalog.specs.Log.{Item, held, ended}
use Rattle.metalog.specs.Tag.{le32}
use Rattle.volume.specs.State.{SizedIn, Name, Struct, pair, inline, skip, Slot, blank, State, start, Effect, inserts, removes, names, points, holds, skips, tails, moves, unknown, grown, named, filled, with_content, with_name, inserted, removed, when, applied, effect_of, no_id, Folded, state, wrong, step, fold_items}
use Rattle.volume.specs.Pair.{Pair, finished_of, Choice, first, second, no_commit, no_newer, choice, judged, read_by, read_pair}
use Rattle.volume.proofs.Lists.{no_answer, same_answer}

-- the same of one entry
abbrev pub SlotSized : Slot → Type 0
SlotSized x = SizedIn x.content

-- the same of each entry
abbrev pub AllSized : List Slot → Type 0
AllSized es = AllByRecursion SlotSized es

-- an entry has such a size, and so has the blank one behind them all
pub sized_at : (es : List Slot) (i : ℕ) → AllSized es → SizedIn (get_or es i blank).content
sized_at [] i h = tt
sized_at (x ∷ xs) zero h = h.0
sized_at (x ∷ xs) (suc i) h = sized_at xs i h.1

-- ---- what a tag does to the entries

all_replicate : (n : ℕ) → AllSized (replicate n blank)
all_replicate zero = tt
all_replicate (suc n) = (tt, all_replicate n)

sized_inserted : (es : List Slot) (i : ℕ) → AllSized es → AllSized (inserted es i)
sized_inserted es i h = All-append SlotSized (take i es) (blank ∷ drop i es) (All-take SlotSized i es h) (tt, All-drop SlotSized i es h)

sized_removed : (es : List Slot) (i : ℕ) → AllSized es → AllSized (removed es i)
sized_removed es i h = All-append SlotSized (take i es) (drop (i + 1) es) (All-take SlotSized i es h) (All-drop SlotSized (i + 1) es h)

sized_grown : (es : List Slot) (i : ℕ) → AllSized es → AllSized (grown es i)
sized_grown es i h = All-append SlotSized es (replicate (i + 1 - length es) blank) h (all_replicate (i + 1 - length es))

sized_named : (es : List Slot) (i : ℕ) (n : Name) → AllSized es → AllSized (with_name es i n)
sized_named es i n h =
    let g = sized_grown es i h in
    All-set SlotSized (grown es i) i (named (get_or (grown es i) i blank) n) (sized_at (grown es i) i g) g

sized_filled : (es : List Slot) (i : ℕ) (c : Struct) → SizedIn (Some c) → AllSized es → AllSized (with_content es i c)
sized_filled es i c s h = All-set SlotSized es i (filled (get_or es i blank) c) s h

-- ---- what a tag does to a state

when_some : (b : Bool) (s t : State) → when b s ≡ Some t → (b ≡ true) × (s ≡ t)
when_some true s t e = (refl, cc)
when_some false s t e = let bad : ◌≡◌ {A = ℕ} 0 1 = cc in absurd (omega arith)

-- a state that is made if a test holds has such sizes, if they follow from the test
sized_when : (b : Bool) (s t : State) → (b ≡ true → AllSized s.entries) → when b s ≡ Some t → AllSized t.entries
sized_when b s t h e = let w = when_some b s t e in subst (λ (u : State). AllSized u.entries) w.1 (h w.0)

sized_applied : (s t : State) (f : Effect) (i : ℕ) (xs : List ℕ) → AllSized s.entries → applied s f i xs ≡ Some t → AllSized t.entries
unfolding applied
sized_applied s t inserts i xs h e = sized_when _ _ t (λ _. sized_inserted s.entries i h) e
sized_applied s t removes i xs h e = sized_when _ _ t (λ _. sized_removed s.entries i h) e
sized_applied s t (names k) i xs h e = sized_when _ _ t (λ _. sized_named s.entries i _ h) e
sized_applied s t points i xs h e = sized_when _ _ t (λ _. sized_filled s.entries i (pair (le32 xs 0) (le32 xs 4)) tt h) e
sized_applied s t holds i xs h e = sized_when _ _ t (λ _. sized_filled s.entries i (inline xs) tt h) e
sized_applied s t skips i xs h e =
    sized_when _ _ t
    (λ b.
    let n = le32 xs 4 in
    let within = and_parts (leb 1 n) (leb n 1048576) (and_parts (ltb i (length s.entries)) _ (and_parts (eqb (length xs) 8) _ b).1).1 in
    sized_filled s.entries i (skip (le32 xs 0) n) (leb-true 1 n within.0, leb-true n 1048576 within.1) h)
    e
sized_applied s t (tails k) i xs h e = sized_when _ _ t (λ _. h) e
sized_applied s t moves i xs h e = sized_when _ _ t (λ _. h) e
sized_applied s t unknown i xs h e = let bad : ◌≡◌ {A = ℕ} 0 1 = cc in absurd (omega arith)

-- ---- what all tags make of it

-- no state is a wrong tag
no_state : (at : ℕ) (s : State) → wrong at ≡ state s → ⊥
no_state at s e = let bad : ◌≡◌ {A = ℕ} 0 1 = cc in omega arith

sized_fold : (s t : State) (xs : List Item) → AllSized s.entries → fold_items s xs ≡ state t → AllSized t.entries
unfolding fold_items
sized_fold s t [] h e = let same : s ≡ t = cc in subst (λ (u : State). AllSized u.entries) same h
sized_fold s t (held x ∷ xs) h e =
    by (applied s (effect_of x.kind) x.id x.bytes) (λ u. sized_applied s u (effect_of x.kind) x.id x.bytes h) (λ u. sized_fold u t xs) e
  where
    by : (o : Option State) → ((u : State) → o ≡ Some u → AllSized u.entries) → ((u : State) → AllSized u.entries → fold_items u xs ≡ state t → AllSized t.entries) → step o x.offset (λ u. fold_items u xs) ≡ state t → AllSized t.entries
    by None made go k = absurd (no_state x.offset t k)
    by (Some u) made go k = go u (made u refl) k
sized_fold s t (ended x ∷ xs) h e = by (eqb x.id no_id) (sized_fold s t xs h) e
  where
    by : (b : Bool) → (fold_items s xs ≡ state t → AllSized t.entries) → cond b (fold_items s xs) (wrong x.tag) ≡ state t → AllSized t.entries
    by true go k = go k
    by false go k = absurd (no_state x.tag t k)

-- ---- a pair that was read

sized_judged : (a b block : ℕ) (f : Folded) (p : Pair) → ((s : State) → f ≡ state s → AllSized s.entries) → judged a b block f ≡ Ok p → AllSized p.state.entries
sized_judged a b block (state s) p h e = subst (λ (q : Pair). AllSized q.state.entries) (same_answer _ p e) (h s refl)
sized_judged a b block (wrong at) p h e = absurd (no_answer _ p e)

sized_by : (k : Choice) (c : Card) (a b : ℕ) (p : Pair) → read_by k c a b ≡ Ok p → AllSized p.state.entries
sized_by first c a b p e = sized_judged a b a (fold_items start (finished_of (bytes c a))) p (λ s is. sized_fold start s (finished_of (bytes c a)) tt is) e
sized_by second c a b p e = sized_judged a b b (fold_items start (finished_of (bytes c b))) p (λ s is. sized_fold start s (finished_of (bytes c b)) tt is) e
sized_by no_commit c a b p e = absurd (no_answer _ p e)
sized_by no_newer c a b p e = absurd (no_answer _ p e)

-- EVERY skip-list file of a pair that was read has such a size
pub state_sized : (c : Card) (a b : ℕ) (p : Pair) → read_pair c a b ≡ Ok p → AllSized p.state.entries
unfolding read_pair
state_sized c a b p e = sized_by (choice (bytes c a) (bytes c b)) c a b p e
