-- Which of two names comes first, by what is left of them behind the bytes that are equal.
use Rattle.std.proofs.Common.{◌≡◌, ℕ, ◌+◌, ◌<◌, ◌≤◌, true, false, ltb, [], ◌∷◌, length, get_or, drop, sym, ap, ◌∙◌, inl, inr, arith}
use Prim.Native.Nat.{Ordering}
use Prim.Native.Nat.{compare}
use Rattle.std.proofs.lemmas.List.{drop_more, drop_all}
use Rattle.std.proofs.lemmas.Bool.{cases_lt, lt-ltb, le-ltb}
use Rattle.volume.specs.Tree.{Name, choose, order, before}
use Rattle.volume.proofs.Orders.{lt_compare, self_compare, gt_compare}

module _ (a b : Name) (i : ℕ) (ha : i < length a) (hb : i < length b) where
  -- what is left of both, by their next bytes
  next : before (drop i a) (drop i b) ≡ choose (choose (compare (get_or a i 0) (get_or b i 0)) Ordering.lt (order (drop (i + 1) a) (drop (i + 1) b)) Ordering.gt) true false false
  unfolding order
  next = ap (λ xs. before xs (drop i b)) (drop_more a i 0 ha) ∙ ap (λ ys. before (get_or a i 0 ∷ drop (i + 1) a) ys) (drop_more b i 0 hb)

  pub before_same : get_or a i 0 ≡ get_or b i 0 → before (drop (i + 1) a) (drop (i + 1) b) ≡ before (drop i a) (drop i b)
  before_same e =
      sym (next ∙ ap (λ x. choose (choose (compare x (get_or b i 0)) Ordering.lt (order (drop (i + 1) a) (drop (i + 1) b)) Ordering.gt) true false false) e
      ∙ ap (λ o. choose (choose o Ordering.lt (order (drop (i + 1) a) (drop (i + 1) b)) Ordering.gt) true false false) (self_compare (get_or b i 0)))

  pub before_less : get_or a i 0 < get_or b i 0 → before (drop i a) (drop i b) ≡ true
  before_less h = next ∙ ap (λ o. choose (choose o Ordering.lt (order (drop (i + 1) a) (drop (i + 1) b)) Ordering.gt) true false false) (lt_compare (get_or a i 0) (get_or b i 0) h)

  pub before_more : get_or b i 0 < get_or a i 0 → before (drop i a) (drop i b) ≡ false
  before_more h = next ∙ ap (λ o. choose (choose o Ordering.lt (order (drop (i + 1) a) (drop (i + 1) b)) Ordering.gt) true false false) (gt_compare (get_or a i 0) (get_or b i 0) h)

-- one of them ends: the shorter comes first
pub before_end : (a b : Name) (i : ℕ) → i ≤ length a → i ≤ length b → (length a ≤ i → ⊥) → length b ≤ i → before (drop i a) (drop i b) ≡ ltb (length a) (length b)
unfolding order
before_end a b i ha hb more end =
    ap (λ ys. before (drop i a) ys) (drop_all i b end) ∙ ap (λ xs. before xs []) (drop_more a i 0 (omega arith)) ∙ sym (le-ltb (length a) (length b) (omega arith))

pub before_first : (a b : Name) (i : ℕ) → length a ≤ i → i ≤ length b → i ≤ length a → before (drop i a) (drop i b) ≡ ltb (length a) (length b)
unfolding order
before_first a b i end hb ha =
    let left : before [] (drop i b) ≡ ltb (length a) (length b) =
    elim (cases_lt i (length b)) [
      | inl h ↦ ap (λ ys. before [] ys) (drop_more b i 0 h) ∙ sym (lt-ltb (length a) (length b) (omega arith))
      | inr h ↦ ap (λ ys. before [] ys) (drop_all i b h) ∙ sym (le-ltb (length a) (length b) (omega arith))
    ] in
    ap (λ xs. before xs (drop i b)) (drop_all i a end) ∙ left
