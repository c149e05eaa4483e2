-- One digit is set to 1, the others stay; or there is no room.
use Rattle.std.proofs.Common.{◌≡◌, ℕ, ◌*◌, ◌/◌, ◌%◌, ◌^◌, true, ◌&&◌, ◌||◌, eqb, ltb, get_or, set, sym, ap, ◌∙◌, arith}
use lib.Bits.{bit_or}
use Rattle.std.proofs.lemmas.Nat.{one_shl}
use Rattle.std.proofs.lemmas.Bool.{lt-ltb}
use Rattle.blockset.specs.Holds.{capacity, holds}
use Rattle.blockset.proofs.Digits.{digit, marked_digit}
use Rattle.blockset.proofs.BlockSet.insert.Goals as goal

pub returns-then-block-lt-CAPACITY : goal.returns-then-block-lt-CAPACITY
unfolding holds
returns-then-block-lt-CAPACITY c =
    let a = c.args.block in
    let xs = c.args.self.now.bits in
    record {
      holding = λ b.
          let room : ltb a capacity ≡ true = lt-ltb a capacity c.if-block-lt-CAPACITY.true in
          let one : (1 * 2 ^ (a % 8)) % 256 ≡ 2 ^ (a % 8) = one_shl (a % 8) 8 (omega arith) in
          ap (λ (m : ℕ). digit (set xs (a / 8) (bit_or (get_or xs (a / 8) 0) m)) b) one
          ∙ marked_digit xs a b (omega arith)
          ∙ sym (ap (λ t. (t && eqb b a) || digit xs b) room);
    }
