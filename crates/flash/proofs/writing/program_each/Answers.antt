-- One unit more, and the unit at which the device stopped.
use Rattle.std.proofs.Common.{◌∙◌, arith}
use Rattle.std.proofs.lemmas.Result.{err_from_is_err_and}
use Rattle.flash.proofs.Filling.{units_more, units_stop}
use Rattle.flash.proofs.writing.program_each.Goals as goal

pub loop-index-preserved : goal.loop-index-preserved
loop-index-preserved g c =
    let i = c.loop-index.invariant in
    let s = c.in-Some.ensures.steps in
    (s.0.0 ∙ i.0, rw s.2 (units_more _ _ _ _ _ _ _ _ _ _ _ _ _ _ i.1 s.0.1.0 (s.0.1.1 ∙ i.0) (omega (arith, s.1)) c.in_ok-program.ensures))

pub returns-in_err-program : goal.returns-in_err-program
returns-in_err-program g c =
    let n = g.D.WritableDevice.history in
    let i = c.loop-index.invariant in
    let s = c.in-Some.ensures.steps in
    let p = err_from_is_err_and c.from_residual.result c.from_residual.ensures.1 in
    rw (p.1, p.2) (units_stop _ _ _ _ _ _ _ _ _ _ _ (g.D.ReadableDevice.meaning c.program.new.self) (n c.args.device.now) (n c.loop-index.device) (n c.program.new.self) c.requires.content_len i.1 s.0.1.0 (s.0.1.1 ∙ i.0) (omega (arith, s.1)) c.in_err-program.ensures)
