-- Each way out of a read is one answer of its steps.
use Rattle.std.proofs.Common.{arith}
use Rattle.std.proofs.lemmas.Result.{err_from_is_err_and}
use Rattle.files.proofs.Outcomes.{outcome_refused, outcome_behind, outcome_stops, outcome_read}
use Rattle.files.proofs.reading.read_bytes.Goals as goal

pub returns-in_err-file : goal.returns-in_err-file
returns-in_err-file g c =
    let p = err_from_is_err_and c.from_residual.result c.from_residual.ensures.1 in
    rw (p.1, p.2) (outcome_refused (g.D.ReadableDevice.meaning c.args.device.now) c.args.head c.args.length c.args.place c.args.out.now _ c.in_err-file.ensures.opened)

pub returns-then-place-length : goal.returns-then-place-length
returns-then-place-length g c =
    outcome_behind (g.D.ReadableDevice.meaning c.args.device.now) c.args.head c.args.length c.args.place c.args.out.now c.in_ok-file.file.size c.in_ok-file.file.last c.in_ok-file.ensures.opened.0 c.in_ok-file.ensures.opened.1 c.if-place-length.true

pub returns-in_err-copy : goal.returns-in_err-copy
returns-in_err-copy g c =
    let p = err_from_is_err_and c.from_residual-in_err-copy.result c.from_residual-in_err-copy.ensures.1 in
    rw (p.1, p.2) (outcome_stops (g.D.ReadableDevice.meaning c.args.device.now) c.args.head c.args.length c.args.place c.args.out.now c.in_ok-file.file.size c.in_ok-file.file.last c.min-count.result c.in_err-copy.field-0.0 c.copy.new.out _ c.in_ok-file.ensures.opened.0 c.in_ok-file.ensures.opened.1 c.if-place-length.false (omega arith) (rw (c.in_ok-file.ensures.device, c.in_ok-file.ensures.head) at c.in_err-copy.ensures))

pub returns : goal.returns
returns g c =
    outcome_read (g.D.ReadableDevice.meaning c.args.device.now) c.args.head c.args.length c.args.place c.args.out.now c.in_ok-file.file.size c.in_ok-file.file.last c.min-count.result c.copy.new.out c.in_ok-file.ensures.opened.0 c.in_ok-file.ensures.opened.1 c.if-place-length.false (omega arith) (rw (c.in_ok-file.ensures.device, c.in_ok-file.ensures.head) at c.in_ok-copy.ensures)
