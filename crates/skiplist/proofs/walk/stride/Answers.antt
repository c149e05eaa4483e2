-- The word of a step is the smaller of the two bounds:
-- the last word that there is, and the last that does not pass the goal.
use Rattle.std.proofs.Common.{arith}
use Rattle.skiplist.proofs.Strides.{stride_by_min}
use Rattle.skiplist.proofs.walk.stride.Goals as goal

pub returns : goal.returns
returns c = stride_by_min c.args.from c.args.to c.min.result c.if-to-from.false (omega arith) c.min.ensures
