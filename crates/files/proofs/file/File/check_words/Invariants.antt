-- The blocks so far are right.
use Rattle.std.proofs.Common.{◌≡◌, true}
use Rattle.volume.specs.Files.{all_right}
use Rattle.files.specs.Steps.{AllUsable}
use Rattle.files.proofs.file.File.check_words.Given as goal

abbrev pub invariant-loop-index : goal.invariant-loop-index
invariant-loop-index g l = AllUsable (g.D.ReadableDevice.meaning l.self.device.now) l.blocks → all_right (g.D.ReadableDevice.meaning l.self.device.now) l.blocks l.index ≡ true
