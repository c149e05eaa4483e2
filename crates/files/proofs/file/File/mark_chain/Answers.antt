-- One block more, the block at which the walk stops, and the first block of the file. A word of a good block can be read.
use Rattle.std.proofs.Common.{arith}
use Rattle.std.proofs.lemmas.Result.{err_from_is_err_and}
use Rattle.files.proofs.Cards.{good_room}
use Rattle.files.proofs.Chains.{onward_none, onward_stops, onward_more, onward_all}
use Rattle.files.proofs.file.File.mark_chain.Goals as goal

pub loop-blocks-init : goal.loop-blocks-init
loop-blocks-init g c = (omega arith, λ seen m. onward_none _ c.args.self.now.last c.args.self.now.head seen _ c.args.blocks.now m)

pub returns-in_err-mark : goal.returns-in_err-mark
returns-in_err-mark g c =
    let p = err_from_is_err_and c.from_residual.result c.from_residual.ensures.1 in
    rw (p.1, p.2) (λ seen m. onward_stops _ c.args.self.now.last c.args.self.now.head seen _ c.loop-blocks.index c.loop-blocks.block c.loop-blocks.blocks _ (c.loop-blocks.invariant.1 seen m) c.in_err-mark.ensures)

pub returns-then-index-eq0 : goal.returns-then-index-eq0
returns-then-index-eq0 g c =
    let shaped = g.met.D.ReadableDevice.shaped c.args.self.now.device.now in
    let done = c.in_ok-mark.ensures in
    let room = good_room _ c.loop-blocks.block shaped c.args.self.now.fit done.0 in
    λ seen m. onward_all _ c.args.self.now.last c.args.self.now.head seen c.loop-blocks.used c.mark.new.used c.loop-blocks.index c.loop-blocks.block c.loop-blocks.blocks c.if-index-eq0.true (omega arith) room done.0 done.1 done.2 (c.loop-blocks.invariant.1 seen m)

pub loop-blocks-preserved : goal.loop-blocks-preserved
loop-blocks-preserved g c =
    let shaped = g.met.D.ReadableDevice.shaped c.args.self.now.device.now in
    let done = c.in_ok-mark.ensures in
    let room = good_room _ c.loop-blocks.block shaped c.args.self.now.fit done.0 in (
      omega arith,
      λ seen m. onward_more _ c.args.self.now.last c.args.self.now.head seen c.loop-blocks.used c.mark.new.used c.loop-blocks.index c.loop-blocks.block _ c.loop-blocks.blocks c.if-index-eq0.false c.loop-blocks.invariant.0 (omega arith) room done.0 done.1 done.2 c.in_ok-block.ensures (c.loop-blocks.invariant.1 seen m),
    )
