-- A block that is right, and one that is not.
use Rattle.std.proofs.Common.{arith}
use Rattle.std.proofs.lemmas.Result.{err_from_is_err_and}
use Rattle.files.proofs.Rights.{all_more, all_stops}
use Rattle.files.proofs.file.File.check_words.Goals as goal

pub returns-in_err-check_block : goal.returns-in_err-check_block
returns-in_err-check_block g c =
    let p = err_from_is_err_and c.from_residual.result c.from_residual.ensures.1 in
    rw (p.1, p.2) (λ all. all_stops (g.D.ReadableDevice.meaning c.args.self.now.device.now) c.args.blocks.now c.loop-index.index _ (c.in_err-check_block.ensures (all c.loop-index.index (omega arith))) (omega arith))

pub loop-index-preserved : goal.loop-index-preserved
loop-index-preserved g c = λ all. all_more (g.D.ReadableDevice.meaning c.args.self.now.device.now) c.args.blocks.now c.loop-index.index (c.in_ok-check_block.ensures (all c.loop-index.index (omega arith))) (c.loop-index.invariant all)
