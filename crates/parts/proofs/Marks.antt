-- The marks of good blocks while the listed bad ones are marked one after the other: none yet, one more, one that names
-- no block, and all.
use Rattle.std.proofs.Common.{◌≡◌, ℕ, ◌+◌, ◌<◌, ◌≤◌, Bool, true, false, not, ◌||◌, eqb, List, [], ◌∷◌, ◌++◌, length, get_or, take, set, replicate, sym, refl, ap, ◌∙◌, inl, inr, arith, length-set}
use Rattle.std.proofs.lemmas.List.{take_more, take_all, get_or-replicate, get_or-set_same, get_or-set_other}
use Rattle.std.proofs.lemmas.List.FromFn.{fill_by_all}
use Rattle.std.proofs.lemmas.Bool.{cases_eq, eq-eqb, ne_eqb}
use Rattle.parts.specs.Chip.{is_in, good_but}

or_false : (a : Bool) → (a || false) ≡ a
or_false true = refl
or_false false = refl

or_true : (a : Bool) → (a || true) ≡ true
or_true true = refl
or_true false = refl

or_assoc : (a b c : Bool) → (a || (b || c)) ≡ ((a || b) || c)
or_assoc true b c = refl
or_assoc false b c = refl

-- one more number at the end of a list
is_in_push : (k x : ℕ) (xs : List ℕ) → is_in k (xs ++ x ∷ []) ≡ (is_in k xs || eqb x k)
is_in_push k x [] = or_false (eqb x k)
is_in_push k x (y ∷ ys) = ap (λ b. eqb y k || b) (is_in_push k x ys) ∙ or_assoc (eqb y k) (is_in k ys) (eqb x k)

-- the first n listed blocks are marked bad, and the others good
abbrev pub Marked : List Bool → List ℕ → ℕ → Type 0
Marked good bad n = (k : ℕ) → k < length good → get_or good k false ≡ not (is_in k (take n bad))

-- at first all are good
pub marked_none : (good : List Bool) (bad : List ℕ) → good ≡ replicate (length good) true → Marked good bad 0
marked_none good bad e = λ k h. ap (λ g. get_or g k false) e ∙ get_or-replicate (length good) k true false h

is_in_more : (bad : List ℕ) (i x k : ℕ) → i < length bad → get_or bad i 0 ≡ x → is_in k (take (i + 1) bad) ≡ (is_in k (take i bad) || eqb x k)
is_in_more bad i x k h e = ap (is_in k) (take_more bad i 0 h ∙ ap (λ y. take i bad ++ y ∷ []) e) ∙ is_in_push k x (take i bad)

-- one more is marked bad
pub marked_more : (good : List Bool) (bad : List ℕ) (i x : ℕ) → i < length bad → get_or bad i 0 ≡ x → x < length good → Marked good bad i → Marked (set good x false) bad (i + 1)
marked_more good bad i x h e w m = λ k l.
    let more = is_in_more bad i x k h e in
    let inside : k < length good = omega (arith, length-set good x false) in
    elim (cases_eq k x) [
      | inl same ↦ ap (λ j. get_or (set good x false) j false) same ∙ get_or-set_same good x false false w ∙ sym (ap not (more ∙ ap (λ b. is_in k (take i bad) || b) (eq-eqb x k (sym same)) ∙ or_true (is_in k (take i bad))))
      | inr other ↦ get_or-set_other good x k false false other ∙ m k inside ∙ sym (ap not (more ∙ ap (λ b. is_in k (take i bad) || b) (ne_eqb x k (λ q. other (sym q))) ∙ or_false (is_in k (take i bad))))
    ]

-- a number past the last block names none
pub marked_past : (good : List Bool) (bad : List ℕ) (i x : ℕ) → i < length bad → get_or bad i 0 ≡ x → length good ≤ x → Marked good bad i → Marked good bad (i + 1)
marked_past good bad i x h e w m = λ k l.
    let more = is_in_more bad i x k h e in
    let other : k ≡ x → ⊥ = λ q. omega arith in
    m k l ∙ sym (ap not (more ∙ ap (λ b. is_in k (take i bad) || b) (ne_eqb x k (λ q. other (sym q))) ∙ or_false (is_in k (take i bad))))

-- at last all that are listed are marked
pub marked_all : (good : List Bool) (bad : List ℕ) (n m : ℕ) → length bad ≤ n → length good ≡ m → Marked good bad n → good ≡ good_but m bad
marked_all good bad n m h e k =
    fill_by_all (λ b. not (is_in b bad)) good m false e
    (λ j l. k j (omega arith) ∙ ap (λ xs. not (is_in j xs)) (take_all n bad h))
