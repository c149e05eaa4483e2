-- After i turns the first i listed blocks are marked.
use Rattle.parts.proofs.Marks.{Marked}
use Rattle.parts.proofs.nor.making.mark_bad.Given as goal

abbrev pub invariant-loop-block : goal.invariant-loop-block
invariant-loop-block l = Marked l.good l.bad l.block-index
