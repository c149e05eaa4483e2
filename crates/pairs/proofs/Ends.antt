-- How many commits of what is read are finished, and what of it counts.
use Rattle.std.proofs.Common.{◌≡◌, ℕ, suc, ◌<◌, true, false, List, [], ◌∷◌, ◌++◌, length, refl, ap, arith}
use Rattle.metalog.specs.Log.{Entry, Item, held, ended, commits_of}
use Rattle.volume.specs.State.{in_front, finished}
use Rattle.volume.specs.Pair.{is_empty}

-- how many commits are finished among the items
abbrev pub ends_in : List Item → ℕ
ends_in [] = 0
ends_in (held e ∷ xs) = ends_in xs
ends_in (ended e ∷ xs) = suc (ends_in xs)

pub ends_commits : (begun : List Entry) (xs : List Item) → length (commits_of begun xs) ≡ ends_in xs
ends_commits begun [] = refl
ends_commits begun (held e ∷ xs) = ends_commits (begun ++ e ∷ []) xs
ends_commits begun (ended e ∷ xs) = ap suc (ends_commits [] xs)

in_front_lem : (e : Entry) (ys : List Item) → 0 < length ys → in_front e ys ≡ held e ∷ ys
in_front_lem e [] lt = absurd (omega arith)
in_front_lem e (y ∷ ys) lt = refl

some_finished : (xs : List Item) → 0 < ends_in xs → 0 < length (finished xs)
some_finished [] lt = lt
some_finished (held e ∷ xs) lt =
    let more = some_finished xs lt in
    omega (arith, ap length (in_front_lem e (finished xs) more))
some_finished (ended e ∷ xs) lt = omega arith

-- a tag in front of a commit that is finished is finished
pub finished_held : (e : Entry) (xs : List Item) → 0 < ends_in xs → finished (held e ∷ xs) ≡ held e ∷ finished xs
finished_held e xs lt = in_front_lem e (finished xs) (some_finished xs lt)

-- where no commit is finished, nothing is
pub finished_none : (xs : List Item) → ends_in xs ≡ 0 → finished xs ≡ []
finished_none [] none = refl
finished_none (held e ∷ xs) none = ap (in_front e) (finished_none xs none)
finished_none (ended e ∷ xs) none = absurd (omega arith)

not_empty : (ys : List Item) → 0 < length ys → is_empty ys ≡ false
not_empty [] lt = absurd (omega arith)
not_empty (y ∷ ys) lt = refl

-- a log is without a finished commit where it has none
pub empty_none : (xs : List Item) → length (commits_of [] xs) ≡ 0 → is_empty (finished xs) ≡ true
empty_none xs none = let nil : ends_in xs ≡ 0 = omega (arith, ends_commits [] xs) in ap is_empty (finished_none xs nil)

pub empty_some : (xs : List Item) → 0 < length (commits_of [] xs) → is_empty (finished xs) ≡ false
empty_some xs lt = not_empty (finished xs) (some_finished xs (omega (arith, ends_commits [] xs)))
