-- A block below the limit begins where the formula says.
-- Its number has at most twelve digits, so no sum on the way is too large.
use Rattle.std.proofs.Common.{◌-◌, ◌*◌, ◌≤◌, mul-le-mul, arith}
use lib.Count.{ones-le}
use Rattle.skiplist.specs.Sizes.{bytes_of}
use Rattle.skiplist.proofs.Sizes.{bytes_least}
use Rattle.skiplist.proofs.Extents.{begins_zero, begins_later}
use Rattle.skiplist.proofs.layout.first_place.Goals as goal

pub returns-then-block-eq0 : goal.returns-then-block-eq0
returns-then-block-eq0 c = begins_zero (bytes_of c.args.size) c.args.block c.if-block-eq0.true

pub returns : goal.returns
returns c =
    begins_later (bytes_of c.args.size) c.content.result c.args.block
    (bytes_least c.args.size) c.content.ensures.is c.if-block-eq0.false (omega arith)
