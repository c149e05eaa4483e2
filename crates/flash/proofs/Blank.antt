-- Bytes that are all 0xff, and the parts of bytes that are.
-- Whoever programs a unit needs that the unit is blank, and has it from a longer part that is.
use Rattle.std.proofs.Common.{◌≡◌, ℕ, zero, suc, ◌+◌, ◌≤◌, true, ◌&&◌, eqb, List, [], ◌∷◌, take, drop, replicate, refl, ap}
use Rattle.std.specs.Prelude.{◌==◌}
use Rattle.std.specs.List.{list_all}
use Rattle.std.proofs.lemmas.List.{take-take, drop-take, drop-drop}
use Rattle.std.proofs.lemmas.Bool.{and_parts, and_from}
use Rattle.flash.specs.Write.{is_erased, part}

-- the question is whether all the bytes are 0xff
pub is_erased_as_all : (xs : List ℕ) → is_erased xs ≡ list_all (λ x. x == 0xff) xs
is_erased_as_all [] = refl
is_erased_as_all (x ∷ xs) = ap (λ b. x == 0xff && b) (is_erased_as_all xs)

-- what an erase leaves is erased
pub erased_replicate : (n : ℕ) → is_erased (replicate n 0xff) ≡ true
erased_replicate zero = refl
erased_replicate (suc n) = erased_replicate n

-- a front and an end of erased bytes are erased
pub erased_take : (n : ℕ) (xs : List ℕ) → is_erased xs ≡ true → is_erased (take n xs) ≡ true
erased_take zero xs h = refl
erased_take (suc n) [] h = refl
erased_take (suc n) (x ∷ xs) h =
    let p = and_parts (eqb x 0xff) (is_erased xs) h in and_from (eqb x 0xff) (is_erased (take n xs)) p.0 (erased_take n xs p.1)

pub erased_drop : (n : ℕ) (xs : List ℕ) → is_erased xs ≡ true → is_erased (drop n xs) ≡ true
erased_drop zero xs h = h
erased_drop (suc n) [] h = refl
erased_drop (suc n) (x ∷ xs) h = erased_drop n xs (and_parts (eqb x 0xff) (is_erased xs) h).1

-- fewer bytes from the same place on
pub erased_part_front : (xs : List ℕ) (at m n : ℕ) → m ≤ n → is_erased (part xs at n) ≡ true → is_erased (part xs at m) ≡ true
erased_part_front xs at m n l h = rw (take-take m n (drop at xs) l) at (erased_take m (part xs at n) h)

-- the bytes behind the first m
pub erased_part_rest : (xs : List ℕ) (at m n : ℕ) → is_erased (part xs at (m + n)) ≡ true → is_erased (part xs (at + m) n) ≡ true
erased_part_rest xs at m n h =
    let e = drop-take m n (drop at xs) in
    let d = drop-drop m at xs in
    rw (e, d) at (erased_drop m (part xs at (m + n)) h)
