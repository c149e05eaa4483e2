-- No digit of bytes that are all 0 is 1.
use Rattle.blockset.specs.Holds.{holds}
use Rattle.blockset.proofs.Digits.{none_digit}
use Rattle.blockset.proofs.BlockSet.new.Goals as goal

pub returns : goal.returns
unfolding holds
returns c = none_digit 512
