-- A read that was refused could not be.
use Rattle.std.proofs.Common.{length}
use Rattle.std.proofs.lemmas.Result.{err_from_is_err_and}
use Rattle.files.proofs.Cards.{within_not_refused}
use Rattle.files.proofs.file.File.read_part.Goals as goal

pub returns-in_err-read : goal.returns-in_err-read
returns-in_err-read g c =
    let p = err_from_is_err_and c.from_residual.result c.from_residual.ensures.1 in
    let refused = c.in_err-read.ensures in
    rw (p.1) (within_not_refused (g.D.ReadableDevice.meaning c.args.self.now.device.now) c.args.block c.args.at (length c.args.out.now) _ refused.0, refused.1)
