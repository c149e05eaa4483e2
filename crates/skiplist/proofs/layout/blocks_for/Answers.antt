-- A file has as many blocks as there are up to the one in which its last byte stands.
-- That block is where `locate` says.
use Rattle.std.proofs.Common.{arith}
use Rattle.skiplist.specs.Sizes.{bytes_of}
use Rattle.skiplist.proofs.Extents.{needed_up_to}
use Rattle.skiplist.proofs.layout.blocks_for.Goals as goal

pub returns : goal.returns
returns c =
    let last = c.in_ok-last.ensures in
    needed_up_to (bytes_of c.args.size) c.args.bytes c.in_ok-last.last.block c.in_ok-last.last.byte
    c.if-bytes-eq0.false (omega arith) last.stands
