-- How many numbers below a bound are in a list that has each at most once: as many as the list is long.
use Rattle.std.proofs.Common.{◌≡◌, ℕ, zero, suc, ◌+◌, ◌<◌, ◌≤◌, Bool, true, false, cond, ◌||◌, eqb, List, [], ◌∷◌, length, refl, ap, ◌∙◌, inl, inr, arith}
use Rattle.std.proofs.lemmas.Bool.{eq-eqb, ne_eqb, cases_lt}
use Rattle.volume.specs.Thread.{member}
use Rattle.volume.specs.Laws.{Apart}
use Rattle.volume.proofs.Lists.{head_member, tail_member}
use Rattle.blockset.specs.Holds.{counted}

-- two tests that agree below the bound count the same
pub counted_same : (n : ℕ) (f g : ℕ → Bool) → ((b : ℕ) → b < n → f b ≡ g b) → counted n f ≡ counted n g
unfolding counted
counted_same zero f g h = refl
counted_same (suc n) f g h = ap (λ k. k + cond (f n) 1 0) (counted_same n f g (λ b l. h b (omega arith))) ∙ ap (λ v. counted n g + cond v 1 0) (h n (omega arith))

counted_none : (n : ℕ) → counted n (λ b. false) ≡ 0
unfolding counted
counted_none zero = refl
counted_none (suc n) = omega (arith, counted_none n)

at_most_one : (v : Bool) → cond v 1 0 ≤ 1
at_most_one true = omega arith
at_most_one false = omega arith

-- no more than the bound
pub counted_most : (n : ℕ) (f : ℕ → Bool) → counted n f ≤ n
unfolding counted
counted_most zero f = omega arith
counted_most (suc n) f = omega (arith, counted_most n f, at_most_one (f n))

-- one number more
counted_one : (n x : ℕ) (f : ℕ → Bool) → x < n → f x ≡ false → counted n (λ b. eqb b x || f b) ≡ suc (counted n f)
unfolding counted
counted_one zero x f l e = absurd (omega arith)
counted_one (suc n) x f l e =
    elim (cases_lt x n) [
      | inl h ↦ (
          let before = counted_one n x f h e in
          let here : ◌≡◌ {A = Bool} (eqb n x || f n) (f n) = ap (λ v. v || f n) (ne_eqb n x (λ q. omega arith)) in
          let last : ◌≡◌ {A = ℕ} (cond (eqb n x || f n) 1 0) (cond (f n) 1 0) = ap (λ v. cond v 1 0) here in
          omega (arith, before, last)
          )
      | inr h ↦ (
          let is : n ≡ x = omega arith in
          let before = counted_same n (λ b. eqb b x || f b) f (λ b k. ap (λ v. v || f b) (ne_eqb b x (λ q. omega arith))) in
          let here : ◌≡◌ {A = Bool} (eqb n x || f n) true = ap (λ v. v || f n) (eq-eqb n x is) in
          let last : ◌≡◌ {A = ℕ} (cond (eqb n x || f n) 1 0) 1 = ap (λ v. cond v 1 0) here in
          let none : ◌≡◌ {A = ℕ} (cond (f n) 1 0) 0 = ap (λ k. cond (f k) 1 0) is ∙ ap (λ v. cond v 1 0) e in
          omega (arith, before, last, none)
          )
    ]

-- THE COUNT OF A LIST: each of its numbers counts once
pub counted_members : (n : ℕ) (xs : List ℕ) → Apart xs → ((x : ℕ) → member x xs ≡ true → x < n) → counted n (λ b. member b xs) ≡ length xs
unfolding counted
counted_members n [] apart h = counted_none n
counted_members n (x ∷ xs) apart h =
    counted_one n x (λ b. member b xs) (h x (head_member x xs)) apart.0 ∙ ap suc (counted_members n xs apart.1 (λ y k. h y (tail_member y x xs k)))

-- so there are no more of them than the bound
pub members_few : (n : ℕ) (xs : List ℕ) → Apart xs → ((x : ℕ) → member x xs ≡ true → x < n) → length xs ≤ n
members_few n xs a h = omega (arith, counted_members n xs a h, counted_most n (λ b. member b xs))
