-- None is marked yet; one more is marked, or names no block; all are marked.
use Rattle.std.proofs.Common.{◌+◌, get_or, sym, refl, subst}
use Rattle.parts.proofs.Marks.{Marked, marked_none, marked_more, marked_past, marked_all}
use Rattle.parts.proofs.nor.making.mark_bad.Goals as goal
use Rattle.parts.proofs.nor.making.mark_bad.Goals.{then-block-good, else-block-good}

pub loop-block-init : goal.loop-block-init
loop-block-init c = marked_none c.args.good.now c.args.bad.now c.requires

pub loop-block-preserved : goal.loop-block-preserved
loop-block-preserved c =
    let bad = c.args.bad.now in
    let i = c.loop-block.block-index in
    elim c.if-block-good.branch [
      | then-block-good w ↦ subst (λ good. Marked good bad (i + 1)) (sym w.good-is) (marked_more c.loop-block.good bad i (get_or bad i 0) c.loop-block-test.true refl w.if-block-good.true c.loop-block.invariant)
      | else-block-good w ↦ subst (λ good. Marked good bad (i + 1)) (sym w.good-is) (marked_past c.loop-block.good bad i (get_or bad i 0) c.loop-block-test.true refl w.if-block-good.false c.loop-block.invariant)
    ]

pub returns : goal.returns
returns c = marked_all c.loop-block.good c.args.bad.now c.loop-block.block-index _ c.loop-block-test.false c.loop-block.auto.good c.loop-block.invariant
