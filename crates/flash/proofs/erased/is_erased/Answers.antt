-- The chain asks whether all the bytes are 0xff.
use Rattle.std.specs.Prelude.{◌==◌}
use Rattle.std.proofs.Common.{rules, sym, ◌∙◌}
use Rattle.std.proofs.lemmas.Iterator.{YieldsList-from_slice}
use Rattle.std.proofs.lemmas.Iterator.Search.{all_from_yields_List}
use borrow.Author.Tests.{tests}
use Rattle.flash.proofs.Blank.{is_erased_as_all}
use Rattle.flash.proofs.erased.is_erased.Goals as goal

pub returns : goal.returns
returns c =
    all_from_yields_List (λ x. x == 0xff) _ _ c.all.result c.all.ensures.ran (YieldsList-from_slice c.args.bytes.now cc) (λ x b q k. search (rules, tests))
    ∙ sym (is_erased_as_all c.args.bytes.now)
