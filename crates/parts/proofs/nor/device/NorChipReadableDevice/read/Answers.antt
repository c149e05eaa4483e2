-- A dark chip refuses; what else happens is what the cells do.
use Rattle.std.proofs.Common.{refl}
use Rattle.parts.proofs.Checked.{read_dark}
use Rattle.parts.proofs.nor.device.NorChipReadableDevice.read.Goals as goal

pub returns-then-self : goal.returns-then-self
returns-then-self c = (read_dark _ _ _ _ c.if-self.true, refl)
