-- Two lists of bytes are the same exactly where the test says so, by which the superblock is known.
use Rattle.std.proofs.Common.{◌≡◌, ℕ, true, false, List, Decides, refl, ⊎_elim}
use Rattle.std.proofs.lemmas.Slice.Eq.{compares_Decides}
use Rattle.std.proofs.lemmas.Bool.{cases_Bool}
use Rattle.volume.specs.Global.{same}

-- the test decides whether two lists are equal
pub same_decides : (xs ys : List ℕ) → Decides (same xs ys) (xs ≡ ys)
same_decides xs ys = compares_Decides same (record { empty = refl; shorter = λ y ys. refl; longer = λ x xs. refl; heads = λ x y xs ys. refl }) xs ys

pub same_true : (xs ys : List ℕ) → same xs ys ≡ true → xs ≡ ys
same_true xs ys h = (same_decides xs ys).0 h

pub same_self : (xs : List ℕ) → same xs xs ≡ true
same_self xs = (same_decides xs xs).1 refl

pub same_false : (xs ys : List ℕ) → (xs ≡ ys → ⊥) → same xs ys ≡ false
same_false xs ys h = ⊎_elim (λ t. absurd (h (same_true xs ys t))) (λ f. f) (cases_Bool (same xs ys))
