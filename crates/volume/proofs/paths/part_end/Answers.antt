-- A slash ends the part, any other byte is one more of it, and the path's end ends it too.
use Rattle.std.proofs.Common.{◌≡◌, length, subst, arith}
use Rattle.volume.specs.Parsed.{PartEnds}
use Rattle.volume.proofs.Splits.{part_slash, part_more, part_last}
use Rattle.volume.proofs.paths.part_end.Goals as goal

pub returns-then-path-i-eq47 : goal.returns-then-path-i-eq47
returns-then-path-i-eq47 c = part_slash c.args.path.now c.args.start c.loop-i.i (omega arith) (omega arith) c.if-path-i-eq47.true c.loop-i.invariant

pub loop-i-preserved : goal.loop-i-preserved
loop-i-preserved c = part_more c.args.path.now c.args.start c.loop-i.i (omega arith) (omega arith) c.if-path-i-eq47.false c.loop-i.invariant

pub returns : goal.returns
returns c =
    let path = c.args.path.now in
    let i = c.loop-i.i in
    let end : i ≡ length path = omega arith in
    subst (PartEnds path c.args.start) end (part_last path c.args.start i (omega arith) end c.loop-i.invariant)
