-- The checksum's steps are linear over xor: so of a number's bits the high ones shift through, and the low ones go by a table.
use Rattle.std.proofs.Common.{◌≡◌, ℕ, zero, suc, ◌*◌, ◌/◌, ◌%◌, ◌^◌, ◌<◌, sym, refl, ap, ◌∙◌, zero-mul, mul-one, arith}
use lib.Bits.{bit_xor, xor_assoc, xor_comm, xor_self, xor_shr, xor_mod, xor_shifted, xor_zero_r, shifted_half, shifted_even}
use Rattle.std.proofs.lemmas.Nat.{shr_split, mod_below, pow_pos}
use Rattle.metalog.specs.Crc.{step, steps}

-- (a ^ b) ^ (c ^ d) = (a ^ c) ^ (b ^ d)
swap : (a b c d : ℕ) → bit_xor (bit_xor a b) (bit_xor c d) ≡ bit_xor (bit_xor a c) (bit_xor b d)
swap a b c d =
    xor_assoc a b (bit_xor c d)
    ∙ ap (bit_xor a) (sym (xor_assoc b c d) ∙ ap (λ (x : ℕ). bit_xor x d) (xor_comm b c) ∙ xor_assoc c b d)
    ∙ sym (xor_assoc a c (bit_xor b d))

-- the polynomial comes in once for each odd one
times : (p x y : ℕ) → x < 2 → y < 2 → bit_xor x y * p ≡ bit_xor (x * p) (y * p)
times p zero y hx hy = rw zero-mul
times p (suc zero) zero hx hy = rw zero-mul (sym (xor_zero_r (1 * p)))
times p (suc zero) (suc zero) hx hy = zero-mul p ∙ sym (xor_self (1 * p))
times p (suc zero) (suc (suc y)) hx hy = absurd (omega arith)
times p (suc (suc x)) y hx hy = absurd (omega arith)

step_xor : (a b : ℕ) → step (bit_xor a b) ≡ bit_xor (step a) (step b)
unfolding step
step_xor a b =
    let half : bit_xor a b / 2 ≡ bit_xor (a / 2) (b / 2) = xor_shr a b 1 in
    let odd : bit_xor a b % 2 ≡ bit_xor (a % 2) (b % 2) = xor_mod a b 1 in
    let poly = times 0xedb88320 (a % 2) (b % 2) (omega arith) (omega arith) in
    ap (λ (x : ℕ). bit_xor x (bit_xor a b % 2 * 0xedb88320)) half
    ∙ ap (λ (x : ℕ). bit_xor (bit_xor (a / 2) (b / 2)) x) (ap (λ (x : ℕ). x * 0xedb88320) odd ∙ poly)
    ∙ swap (a / 2) (b / 2) (a % 2 * 0xedb88320) (b % 2 * 0xedb88320)

pub steps_xor : (n a b : ℕ) → steps n (bit_xor a b) ≡ bit_xor (steps n a) (steps n b)
unfolding steps
steps_xor zero a b = refl
steps_xor (suc n) a b = ap (steps n) (step_xor a b) ∙ steps_xor n (step a) (step b)

step_even : (a k : ℕ) → step (a * 2 ^ suc k) ≡ a * 2 ^ k
unfolding step
step_even a k = rw (shifted_half a k, shifted_even a k) (xor_zero_r (a * 2 ^ k))

steps_shifted : (n a : ℕ) → steps n (a * 2 ^ n) ≡ a
unfolding steps
steps_shifted zero a = mul-one a
steps_shifted (suc n) a = ap (steps n) (step_even a n) ∙ steps_shifted n a

-- n bits at once: the low ones by what a table has, the high ones as they are
pub split : (n x : ℕ) → bit_xor (steps n (x % 2 ^ n)) (x / 2 ^ n) ≡ steps n x
split n x =
    let high = x / 2 ^ n in
    let low = x % 2 ^ n in
    let whole : bit_xor (high * 2 ^ n) low ≡ x = xor_shifted high n low (mod_below x (2 ^ n) (pow_pos n)) ∙ shr_split x n in
    xor_comm (steps n low) high
    ∙ ap (λ (y : ℕ). bit_xor y (steps n low)) (sym (steps_shifted n high))
    ∙ sym (steps_xor n (high * 2 ^ n) low)
    ∙ ap (steps n) whole
