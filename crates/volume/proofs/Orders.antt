-- The order of names is strict: no name is before itself, and a name before another is before all that come behind it.
use Rattle.std.proofs.Common.{◌≡◌, ℕ, ◌<◌, true, false, ◌⊎◌, [], ◌∷◌, sym, refl, ap, ◌∙◌, inl, inr, arith}
use Prim.Native.Nat.{compare, Ordering}
use native.Mathlib.Omega.{compare-lt, compare-eq, compare-gt}
use Rattle.volume.specs.Tree.{Name, choose, order, before, named}

-- two numbers in ascending order compare so
pub lt_compare : (a b : ℕ) → a < b → compare a b ≡ Ordering.lt
lt_compare a b h = by (compare a b) refl
  where
    by : (o : Ordering) → compare a b ≡ o → o ≡ Ordering.lt
    by Ordering.lt e = refl
    by Ordering.eq e = let same = compare-eq a b e in absurd (omega arith)
    by Ordering.gt e = let after = compare-gt a b e in absurd (omega arith)

-- a number compares as the same with itself
pub self_compare : (a : ℕ) → compare a a ≡ Ordering.eq
self_compare a = by (compare a a) refl
  where
    by : (o : Ordering) → compare a a ≡ o → o ≡ Ordering.eq
    by Ordering.lt e = let after = compare-lt a a e in absurd (omega arith)
    by Ordering.eq e = refl
    by Ordering.gt e = let after = compare-gt a a e in absurd (omega arith)

-- and in descending order the other way
pub gt_compare : (a b : ℕ) → b < a → compare a b ≡ Ordering.gt
gt_compare a b h = by (compare a b) refl
  where
    by : (o : Ordering) → compare a b ≡ o → o ≡ Ordering.gt
    by Ordering.lt e = let ahead = compare-lt a b e in absurd (omega arith)
    by Ordering.eq e = let same = compare-eq a b e in absurd (omega arith)
    by Ordering.gt e = refl

-- names of the same place in the order begin with the same number, and go on so
same_parts : (x y : ℕ) (xs ys : Name) → order (x ∷ xs) (y ∷ ys) ≡ Ordering.eq → (x ≡ y) × (order xs ys ≡ Ordering.eq)
unfolding order
same_parts x y xs ys e = by (compare x y) refl e
  where
    by : (o : Ordering) → compare x y ≡ o → choose o Ordering.lt (order xs ys) Ordering.gt ≡ Ordering.eq → (x ≡ y) × (order xs ys ≡ Ordering.eq)
    by Ordering.lt h k = let bad : ◌≡◌ {A = ℕ} 0 1 = cc in absurd (omega arith)
    by Ordering.eq h k = (compare-eq x y h, k)
    by Ordering.gt h k = let bad : ◌≡◌ {A = ℕ} 0 1 = cc in absurd (omega arith)

-- names of the same place in the order are the same
order_same : (a b : Name) → order a b ≡ Ordering.eq → a ≡ b
unfolding order
order_same [] [] e = refl
order_same [] (y ∷ ys) e = let bad : ◌≡◌ {A = ℕ} 0 1 = cc in absurd (omega arith)
order_same (x ∷ xs) [] e = let bad : ◌≡◌ {A = ℕ} 0 1 = cc in absurd (omega arith)
order_same (x ∷ xs) (y ∷ ys) e = let both = same_parts x y xs ys e in let first = both.0 in let rest = order_same xs ys both.1 in cc

-- a name that is named is that name
pub named_same : (a b : Name) → named a b ≡ true → a ≡ b
named_same a b e = by (order a b) refl e
  where
    by : (o : Ordering) → order a b ≡ o → choose o false true false ≡ true → a ≡ b
    by Ordering.lt h k = let bad : ◌≡◌ {A = ℕ} 0 1 = cc in absurd (omega arith)
    by Ordering.eq h k = order_same a b h
    by Ordering.gt h k = let bad : ◌≡◌ {A = ℕ} 0 1 = cc in absurd (omega arith)

-- a name has its own place in the order
order_self : (a : Name) → order a a ≡ Ordering.eq
unfolding order
order_self [] = refl
order_self (x ∷ xs) = ap (λ o. choose o Ordering.lt (order xs xs) Ordering.gt) (self_compare x) ∙ order_self xs

-- each name is named by itself
pub named_self : (a : Name) → named a a ≡ true
named_self a = ap (λ o. choose o false true false) (order_self a)

-- no name is before itself
pub before_self : (a : Name) → before a a ≡ false
before_self a = ap (λ o. choose o true false false) (order_self a)

-- an ascending order of names shows at their first numbers, or behind them
less_cases : (x y : ℕ) (xs ys : Name) → order (x ∷ xs) (y ∷ ys) ≡ Ordering.lt → (x < y) ⊎ ((x ≡ y) × (order xs ys ≡ Ordering.lt))
unfolding order
less_cases x y xs ys e = by (compare x y) refl e
  where
    by : (o : Ordering) → compare x y ≡ o → choose o Ordering.lt (order xs ys) Ordering.gt ≡ Ordering.lt → (x < y) ⊎ ((x ≡ y) × (order xs ys ≡ Ordering.lt))
    by Ordering.lt h k = inl (compare-lt x y h)
    by Ordering.eq h k = inr (compare-eq x y h, k)
    by Ordering.gt h k = let bad : ◌≡◌ {A = ℕ} 0 1 = cc in absurd (omega arith)

-- names ascend whose first numbers do
less_first : (x y : ℕ) (xs ys : Name) → x < y → order (x ∷ xs) (y ∷ ys) ≡ Ordering.lt
unfolding order
less_first x y xs ys h = ap (λ o. choose o Ordering.lt (order xs ys) Ordering.gt) (lt_compare x y h)

-- names ascend that begin with the same number, and ascend behind it
less_rest : (x y : ℕ) (xs ys : Name) → x ≡ y → order xs ys ≡ Ordering.lt → order (x ∷ xs) (y ∷ ys) ≡ Ordering.lt
unfolding order
less_rest x y xs ys e h = ap (λ o. choose o Ordering.lt (order xs ys) Ordering.gt) (ap (λ v. compare x v) (sym e) ∙ self_compare x) ∙ h

-- of three names, if each of two comes before the next, the first comes before the last
order_trans : (a b d : Name) → order a b ≡ Ordering.lt → order b d ≡ Ordering.lt → order a d ≡ Ordering.lt
unfolding order
order_trans [] [] d p q = q
order_trans [] (y ∷ ys) [] p q = let bad : ◌≡◌ {A = ℕ} 0 1 = cc in absurd (omega arith)
order_trans [] (y ∷ ys) (z ∷ zs) p q = refl
order_trans (x ∷ xs) [] d p q = let bad : ◌≡◌ {A = ℕ} 0 1 = cc in absurd (omega arith)
order_trans (x ∷ xs) (y ∷ ys) [] p q = let bad : ◌≡◌ {A = ℕ} 0 1 = cc in absurd (omega arith)
order_trans (x ∷ xs) (y ∷ ys) (z ∷ zs) p q = elim (less_cases x y xs ys p) [
  | inl h ↦ elim (less_cases y z ys zs q) [ inl k ↦ less_first x z xs zs (omega arith) | inr k ↦ less_first x z xs zs (omega arith) ]
  | inr h ↦ elim (less_cases y z ys zs q) [ inl k ↦ less_first x z xs zs (omega arith) | inr k ↦ less_rest x z xs zs (h.0 ∙ k.0) (order_trans xs ys zs h.1 k.1) ]
]

-- a name that is before another comes first in the order
before_order : (a b : Name) → before a b ≡ true → order a b ≡ Ordering.lt
before_order a b e = by (order a b) e
  where
    by : (o : Ordering) → choose o true false false ≡ true → o ≡ Ordering.lt
    by Ordering.lt k = refl
    by Ordering.eq k = let bad : ◌≡◌ {A = ℕ} 0 1 = cc in absurd (omega arith)
    by Ordering.gt k = let bad : ◌≡◌ {A = ℕ} 0 1 = cc in absurd (omega arith)

-- a name before one is before those behind it
pub before_trans : (a b d : Name) → before a b ≡ true → before b d ≡ true → before a d ≡ true
before_trans a b d p q = ap (λ o. choose o true false false) (order_trans a b d (before_order a b p) (before_order b d q))
