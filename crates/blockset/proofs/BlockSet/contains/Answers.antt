-- The last digit of a number is its remainder by two.
use Rattle.std.proofs.Common.{ℕ, ◌/◌, ◌%◌, ◌^◌, eqb, ap, ◌∙◌, arith, rules}
use lib.Bits.{and_mask}
use Rattle.blockset.specs.Holds.{holds}
use Rattle.blockset.proofs.Digits.{by_byte}
use Rattle.blockset.proofs.BlockSet.contains.Goals as goal

pub returns : goal.returns
unfolding holds
returns c =
    let block = c.args.block in
    by_byte c.args.self.now.bits block c.get-byte.result c.is_some_and.result _ (c.get-byte.ensures.lookup.4 (omega arith) 0) c.is_some_and.ensures
    (λ x p. search rules ∙ ap (λ (y : ℕ). eqb y 1) (and_mask (x.now / 2 ^ (block % 8)) 1))
