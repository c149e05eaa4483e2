-- One binary digit of a byte, and what setting one to 1 does to the others.
use Rattle.std.proofs.Common.{◌≡◌, ℕ, zero, suc, ◌*◌, ◌/◌, ◌%◌, ◌^◌, ◌<◌, ◌≤◌, Bool, true, false, cond, ◌||◌, eqb, Bor, List, Some, None, Option, length, get_or, set, replicate, sym, refl, ap, ◌∙◌, ⊎_elim, pow-suc, div-one, arith, pow_pos}
use Rattle.std.specs.Option.{MatchOption, option_map, unwrap_or}
use native.Mathlib.Nat.{mul-mod_left, div-eq_of_lt, mul-div-mul_right}
use lib.Bits.{bit_or, or_shr, or_mod, or_zero_r}
use lib.Dec.{eqb-suc-zero, eqb-zero-suc, eqb-suc-suc}
use Rattle.std.proofs.lemmas.List.{get_or-set_same, get_or-set_other, get_or_past, get_or-replicate, length-replicate}
use Rattle.std.proofs.lemmas.Nat.{shr_le}
use Rattle.std.proofs.lemmas.Bool.{cases_lt, cases_eq, eq-eqb, ne_eqb}

-- digit j of 2 ^ k is 1 where j is k
power_digit : (k j : ℕ) → 2 ^ k / 2 ^ j % 2 ≡ cond (eqb j k) 1 0
power_digit zero zero = refl
power_digit zero (suc j) =
    let more = pow-suc 2 j in
    let pos = pow_pos j in
    let small : 1 < 2 ^ suc j = omega arith in
    ap (λ (x : ℕ). x % 2) (div-eq_of_lt small) ∙ sym (ap (λ t. cond t 1 0) (eqb-suc-zero j))
power_digit (suc k) zero =
    ap (λ (x : ℕ). x % 2) (div-one (2 ^ suc k) ∙ pow-suc 2 k) ∙ mul-mod_left (2 ^ k) 2 ∙ sym (ap (λ t. cond t 1 0) (eqb-zero-suc k))
power_digit (suc k) (suc j) =
    let halved : 2 ^ k * 2 / (2 ^ j * 2) ≡ 2 ^ k / 2 ^ j = mul-div-mul_right (2 ^ k) (2 ^ j) (omega arith) in
    ap (λ (x : ℕ). x / 2 ^ suc j % 2) (pow-suc 2 k) ∙ ap (λ (x : ℕ). 2 ^ k * 2 / x % 2) (pow-suc 2 j)
    ∙ ap (λ (x : ℕ). x % 2) halved ∙ power_digit k j ∙ sym (ap (λ t. cond t 1 0) (eqb-suc-suc j k))

-- one digit or another
or_one : (a : ℕ) → a < 2 → bit_or a 1 ≡ 1
or_one zero h = refl
or_one (suc zero) h = refl
or_one (suc (suc a)) h = omega arith

either : (t : Bool) (a : ℕ) → a < 2 → eqb (bit_or a (cond t 1 0)) 1 ≡ t || eqb a 1
either true a h = ap (λ (x : ℕ). eqb x 1) (or_one a h)
either false a h = ap (λ (x : ℕ). eqb x 1) (or_zero_r a)

-- digit j of a number in which digit k was set to 1
or_digit : (x k j : ℕ) → eqb (bit_or x (2 ^ k) / 2 ^ j % 2) 1 ≡ eqb j k || eqb (x / 2 ^ j % 2) 1
or_digit x k j =
    let parts : bit_or x (2 ^ k) / 2 ^ j % 2 ≡ bit_or (x / 2 ^ j % 2) (cond (eqb j k) 1 0) =
    ap (λ (y : ℕ). y % 2) (or_shr x (2 ^ k) j) ∙ or_mod (x / 2 ^ j) (2 ^ k / 2 ^ j) 1 ∙ ap (bit_or (x / 2 ^ j % 2)) (power_digit k j) in
    ap (λ (y : ℕ). eqb y 1) parts ∙ either (eqb j k) (x / 2 ^ j % 2) (omega arith)

-- digit b of a list of bytes
abbrev pub digit : List ℕ → ℕ → Bool
digit xs b = eqb (get_or xs (b / 8) 0 / 2 ^ (b % 8) % 2) 1

-- no digit of 0 is 1
pub zero_digit : (xs : List ℕ) (b : ℕ) → get_or xs (b / 8) 0 ≡ 0 → digit xs b ≡ false
zero_digit xs b e =
    let none : 0 / 2 ^ (b % 8) ≡ 0 = omega (arith, shr_le 0 (b % 8)) in
    ap (λ (x : ℕ). eqb (x / 2 ^ (b % 8) % 2) 1) e ∙ ap (λ (x : ℕ). eqb (x % 2) 1) none

-- behind the last byte there is no digit
pub past_digit : (xs : List ℕ) (b : ℕ) → length xs ≤ b / 8 → digit xs b ≡ false
past_digit xs b h = zero_digit xs b (get_or_past xs (b / 8) 0 h)

-- a byte in which digit a was set to 1
abbrev pub marked : List ℕ → ℕ → List ℕ
marked xs a = set xs (a / 8) (bit_or (get_or xs (a / 8) 0) (2 ^ (a % 8)))

pub marked_digit : (xs : List ℕ) (a b : ℕ) → a / 8 < length xs → digit (marked xs a) b ≡ eqb b a || digit xs b
marked_digit xs a b within = ⊎_elim same other (cases_eq (b / 8) (a / 8))
  where
    tested : b / 8 ≡ a / 8 → eqb (b % 8) (a % 8) ≡ eqb b a
    tested e = ⊎_elim (λ h. eq-eqb (b % 8) (a % 8) h ∙ sym (eq-eqb b a (omega arith))) (λ h. ne_eqb (b % 8) (a % 8) h ∙ sym (ne_eqb b a (λ k. h (ap (λ (x : ℕ). x % 8) k)))) (cases_eq (b % 8) (a % 8))

    same : b / 8 ≡ a / 8 → digit (marked xs a) b ≡ eqb b a || digit xs b
    same e =
        let at : get_or (marked xs a) (b / 8) 0 ≡ bit_or (get_or xs (b / 8) 0) (2 ^ (a % 8)) =
        ap (λ (i : ℕ). get_or (marked xs a) i 0) e ∙ get_or-set_same xs (a / 8) (bit_or (get_or xs (a / 8) 0) (2 ^ (a % 8))) 0 within ∙ ap (λ (i : ℕ). bit_or (get_or xs i 0) (2 ^ (a % 8))) (sym e) in
        ap (λ (x : ℕ). eqb (x / 2 ^ (b % 8) % 2) 1) at ∙ or_digit (get_or xs (b / 8) 0) (a % 8) (b % 8) ∙ ap (λ t. t || digit xs b) (tested e)

    other : (b / 8 ≡ a / 8 → ⊥) → digit (marked xs a) b ≡ eqb b a || digit xs b
    other ne =
        ap (λ (x : ℕ). eqb (x / 2 ^ (b % 8) % 2) 1) (get_or-set_other xs (a / 8) (b / 8) (bit_or (get_or xs (a / 8) 0) (2 ^ (a % 8))) 0 ne)
        ∙ sym (ap (λ t. t || digit xs b) (ne_eqb b a (λ k. ne (ap (λ (x : ℕ). x / 8) k))))

-- no digit of bytes that are all 0 is 1
pub none_digit : (n b : ℕ) → digit (replicate n 0) b ≡ false
none_digit n b =
    ⊎_elim
    (λ h. zero_digit (replicate n 0) b (get_or-replicate n (b / 8) 0 0 h))
    (λ h. past_digit (replicate n 0) b (omega (arith, length-replicate {A = ℕ} n 0)))
    (cases_lt (b / 8) n)

-- a test of the byte that has a digit, if there is one, says whether the digit is 1
pub by_byte : (xs : List ℕ) (b : ℕ) (o : Option (Bor ℕ)) (r : Bool) (P : Bor ℕ → Type 0) → unwrap_or (option_map (λ x. x.now) o) 0 ≡ get_or xs (b / 8) 0
    → MatchOption o (r ≡ false) P → ((x : Bor ℕ) → P x → r ≡ eqb (x.now / 2 ^ (b % 8) % 2) 1) → r ≡ digit xs b
by_byte xs b None r P is none test = none ∙ sym (zero_digit xs b (sym is))
by_byte xs b (Some x) r P is some test = test x some ∙ ap (λ (y : ℕ). eqb (y / 2 ^ (b % 8) % 2) 1) is
