-- Each way out is one reason of `unfit`.
use Rattle.std.proofs.Common.{arith}
use Rattle.std.proofs.lemmas.Bool.Decides.{nat_tests}
use Rattle.flash.specs.Runs.{unfit}
use Rattle.flash.proofs.writing.check_fits.Goals as goal

pub returns-then-is_dark : goal.returns-then-is_dark
unfolding unfit
returns-then-is_dark g c = record { why = grind (arith, nat_tests); below = tt }

pub returns-then-count-ne0 : goal.returns-then-count-ne0
unfolding unfit
returns-then-count-ne0 g c = record { why = grind (arith, nat_tests); below = tt }

pub returns : goal.returns
unfolding unfit
returns g c = record { why = grind (arith, nat_tests); below = grind (arith, nat_tests) }
