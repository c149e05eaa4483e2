-- One take-up more.
use Rattle.flash.specs.History.{power_up}
use Rattle.flash.proofs.Counting.{recorded_more}
use Rattle.flash.proofs.recorder.RecorderWritableDevice.take_up.Goals as goal

pub returns : goal.returns
returns g c = (c.take_up.ensures.0, rw c.count.ensures (recorded_more _ power_up _ _ c.take_up.ensures.1))
