-- What the device below answered, with the counters.
use Rattle.std.proofs.Common.{rules}
use Rattle.flash.proofs.Counting.{answers_counted, answers_uncounted}
use Rattle.flash.proofs.recorder.RecorderWritableDevice.erase.Goals as goal

pub returns-then-was_asked : goal.returns-then-was_asked
returns-then-was_asked g c = rw c.count.ensures (answers_counted _ _ c.erase-answer.result _ _ _ _ (search rules) c.erase-answer.ensures)

pub returns-else-was_asked : goal.returns-else-was_asked
returns-else-was_asked g c = answers_uncounted _ _ c.erase-answer.result _ _ _ _ (search rules) c.erase-answer.ensures
