-- The marks that the slice was left with are those of the Vec.
use Rattle.std.proofs.Common.{ap, ◌∙◌}
use Rattle.std.proofs.lemmas.List.{with_items_is}
use Rattle.parts.specs.Chip.{good_but}
use Rattle.parts.proofs.nor.making.marks.Goals as goal

pub returns : goal.returns
returns c =
    with_items_is c.in_ok-good.good c.mark_bad.new.good (c.mark_bad.auto.good ∙ c.deref_mut.ensures.len)
    ∙ c.mark_bad.ensures
    ∙ ap (λ n. good_but n c.args.bad.now) (c.deref_mut.ensures.len ∙ c.in_ok-good.ensures.len)
