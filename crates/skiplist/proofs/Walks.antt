-- A walk back to an earlier block ends, in at most two steps for each binary digit.
-- While the goal is farther than the block's last word leads, each step doubles the power of two that divides the block's
-- number; from then on each step takes the highest digit from the distance.
use Rattle.std.proofs.Common.{◌≡◌, ℕ, zero, suc, ◌+◌, ◌-◌, ◌*◌, ◌/◌, ◌%◌, ◌^◌, ◌<◌, ◌≤◌, min, sym, refl, ap, ◌∙◌, subst, ⊎_elim, mod-eq_of_lt, mul_comm, eq-zero-or-pos, one-mul, pow-suc, zero-mul, mul-one, arith, pow_pos, pow_mono}
use native.Mathlib.Nat.{mul-sub, mul-mod_left, mul-mod_right}
use lib.Count.{count_trailing_zeros, count_leading_zeros}
use lib.Pow.{mod-mod-pow, mod-pow-add, split}
use Rattle.std.proofs.lemmas.Bool.{cases_lt, cases_eq}
use Rattle.skiplist.specs.Strides.{Stride, Walk}
use Rattle.skiplist.specs.Laws.{WalksEnd}
use Rattle.skiplist.proofs.Words.{pointers_later, trailing_divides, divides_trailing}
use Rattle.skiplist.proofs.Strides.{power_le_top, stride_by_min}

-- a smaller power of two divides what a larger one does
divides_lower : (a j k : ℕ) → j ≤ k → a % 2 ^ k ≡ 0 → a % 2 ^ j ≡ 0
divides_lower a j k le h =
    let e : k - j + j ≡ k = omega arith in
    let whole : a % 2 ^ (k - j + j) ≡ 0 = ap (λ (x : ℕ). a % 2 ^ x) e ∙ h in
    let none : 0 % 2 ^ j ≡ 0 = mod-eq_of_lt (pow_pos j) in
    sym (mod-mod-pow a (k - j) j) ∙ ap (λ (x : ℕ). x % 2 ^ j) whole ∙ none

-- taking away what divides leaves what it divides
divides_less : (a t : ℕ) → a % 2 ^ t ≡ 0 → (a - 2 ^ t) % 2 ^ t ≡ 0
divides_less a t h =
    let whole = split a t in
    let rest : 2 ^ t * (a / 2 ^ t - 1) ≡ a - 2 ^ t = omega (arith, mul-sub (2 ^ t) (a / 2 ^ t) 1, mul-one (2 ^ t), mul_comm (2 ^ t) (a / 2 ^ t)) in
    ap (λ (x : ℕ). x % 2 ^ t) (sym rest) ∙ mul-mod_right (2 ^ t) (a / 2 ^ t - 1)

-- taking away the lowest digit leaves what the next power of two divides
divides_next : (a t : ℕ) → a % 2 ^ t ≡ 0 → (a % 2 ^ suc t ≡ 0 → ⊥) → (a - 2 ^ t) % 2 ^ suc t ≡ 0
divides_next a t h some =
    let e : 1 + t ≡ suc t = omega arith in
    let parts : a % 2 ^ suc t ≡ (a / 2 ^ t % 2) * 2 ^ t + a % 2 ^ t = ap (λ (x : ℕ). a % 2 ^ x) (sym e) ∙ mod-pow-add a 1 t in
    let lowest : a % 2 ^ suc t ≡ 2 ^ t =
    ⊎_elim
    (λ z. absurd (some (parts ∙ omega (arith, ap (λ (x : ℕ). x * 2 ^ t) z, zero-mul (2 ^ t)))))
    (λ l. let one : a / 2 ^ t % 2 ≡ 1 = omega arith in omega (arith, parts, ap (λ (x : ℕ). x * 2 ^ t) one, one-mul (2 ^ t)))
    (eq-zero-or-pos (a / 2 ^ t % 2)) in
    let rest : a / 2 ^ suc t * 2 ^ suc t ≡ a - 2 ^ t = omega (arith, split a (suc t), lowest) in
    ap (λ (x : ℕ). x % 2 ^ suc t) (sym rest) ∙ mul-mod_left (a / 2 ^ suc t) (2 ^ suc t)

-- where 2 ^ t divides a block's number and does not pass the goal, the step is at least as long
stride_ge : (a b k t : ℕ) → a < 2 ^ 32 → Stride a b k → a % 2 ^ t ≡ 0 → 2 ^ t ≤ a - b → t ≤ k
stride_ge a b k t fits at divided reached =
    let pos = pow_pos t in
    at.farthest t (omega (arith, pointers_later a (omega arith), divides_trailing 32 a t (omega arith) fits divided)) reached

-- the step's power of two divides the block's number
stride_divides : (a b k : ℕ) → Stride a b k → a % 2 ^ k ≡ 0
stride_divides a b k at =
    let pos = pow_pos k in
    let le = at.within in
    trailing_divides 32 a k (omega (arith, at.word, pointers_later a (omega arith)))

-- a step by the lowest digit of a block's number, where that does not pass the goal
stride_lowest : (a b k t : ℕ) → a < 2 ^ 32 → Stride a b k → a % 2 ^ t ≡ 0 → (a % 2 ^ suc t ≡ 0 → ⊥) → 2 ^ t ≤ a - b → k ≡ t
stride_lowest a b k t fits at divided some far =
    ⊎_elim
    (λ l. absurd (some (divides_lower a (suc t) k l (stride_divides a b k at))))
    (λ l. omega (arith, stride_ge a b k t fits at divided far))
    (cases_lt t k)

-- a walk to where it begins has no step
walk_nowhere : (to from n : ℕ) → from ≤ to → Walk to from n → n ≡ 0
walk_nowhere to from zero h e = refl
walk_nowhere to from (suc n) h (k, at, rest) = let pos = pow_pos k in omega (arith, at.within)

-- The goal is nearer than 2 ^ t, which divides the block's number: each step takes the highest digit from the distance.
walk_shrinking : (t to from n : ℕ) → from < 2 ^ 32 → from % 2 ^ t ≡ 0 → from - to < 2 ^ t → Walk to from n → n ≤ t
walk_shrinking zero to from n fits divided near walk = omega (arith, walk_nowhere to from n (omega arith) walk)
walk_shrinking (suc t) to from zero fits divided near walk = omega arith
walk_shrinking (suc t) to from (suc n) fits divided near (k, at, rest) =
    let half : from % 2 ^ t ≡ 0 = divides_lower from t (suc t) (omega arith) divided in
    ⊎_elim
    (λ l. omega (arith, walk_shrinking t to from (suc n) fits half l (k, at, rest)))
    (λ l.
    let least : t ≤ k = stride_ge from to k t fits at half l in
    let most : k ≤ t = power_le_top (from - to) t k near at.within in
    let is : k ≡ t = omega arith in
    let walk : Walk to (from - 2 ^ t) n = subst (λ (x : ℕ). Walk to (from - 2 ^ x) n) is rest in
    omega (arith, walk_shrinking t to (from - 2 ^ t) n (omega arith) (divides_less from t half) (omega (arith, pow-suc 2 t)) walk))
    (cases_lt (from - to) (2 ^ t))

-- 2 ^ t divides the block's number, of t + j digits: while the goal is farther, each step doubles the power that divides.
walk_growing : (j t to from n : ℕ) → from < 2 ^ 32 → from < 2 ^ (j + t) → from % 2 ^ t ≡ 0 → Walk to from n → n ≤ 2 * j + t
walk_growing zero t to from n fits hi divided walk =
    let e : 0 + t ≡ t = omega arith in
    let same = ap (λ (x : ℕ). 2 ^ x) e in
    let is_zero : from ≡ 0 = sym (mod-eq_of_lt (omega arith)) ∙ divided in
    omega (arith, walk_nowhere to from n (omega arith) walk)
walk_growing (suc j) t to from zero fits hi divided walk = omega arith
walk_growing (suc j) t to from (suc n) fits hi divided (k, at, rest) =
    let e : suc j + t ≡ j + suc t = omega arith in
    let same = ap (λ (x : ℕ). 2 ^ x) e in
    ⊎_elim
    (λ near. omega (arith, walk_shrinking t to from (suc n) fits divided near (k, at, rest)))
    (λ far.
    ⊎_elim
    (λ more. omega (arith, walk_growing j (suc t) to from (suc n) fits (omega arith) more (k, at, rest)))
    (λ some.
    let is : k ≡ t = stride_lowest from to k t fits at divided some far in
    let walk : Walk to (from - 2 ^ t) n = subst (λ (x : ℕ). Walk to (from - 2 ^ x) n) is rest in
    omega (arith, walk_growing j (suc t) to (from - 2 ^ t) n (omega arith) (omega arith) (divides_next from t divided some) walk))
    (cases_eq (from % 2 ^ suc t) 0))
    (cases_lt (from - to) (2 ^ t))

-- there is a walk to every block that is not behind: each step goes back, and not past the goal
walk_exists : (bound from to : ℕ) → from ≤ bound → to ≤ from → from < 2 ^ 32 → (n : ℕ) × Walk to from n
walk_exists zero from to le back fits = (0, omega arith)
walk_exists (suc bound) from to le back fits =
    ⊎_elim
    (λ less.
    let k : ℕ = min (31 - count_leading_zeros 32 (from - to)) (count_trailing_zeros 32 from) in
    let at : Stride from to k = stride_by_min from to k less fits refl in
    let before = at.before in
    let rest = walk_exists bound (from - 2 ^ k) to (omega arith) at.reaches (omega arith) in
    (suc rest.0, (k, at, rest.1)))
    (λ there. (0, omega arith))
    (cases_lt to from)

-- a walk takes at most two steps for each binary digit
walk_few : (digits from to n : ℕ) → digits ≤ 32 → from < 2 ^ digits → Walk to from n → n ≤ 2 * digits
walk_few digits from to n le fits walk =
    let most = pow_mono le in
    let e : digits + 0 ≡ digits = omega arith in
    let same = ap (λ (x : ℕ). 2 ^ x) e in
    omega (arith, walk_growing digits 0 to from n (omega arith) (omega arith) (omega arith) walk)

pub walks_end : WalksEnd
walks_end = record { ends = λ from to back fits. walk_exists from from to (omega arith) back fits; few = walk_few }
