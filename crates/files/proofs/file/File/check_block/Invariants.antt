-- The words so far are right.
use Rattle.std.proofs.Common.{◌≡◌, true}
use Rattle.volume.specs.Files.{right_words}
use Rattle.files.proofs.file.File.check_block.Given as goal

abbrev pub invariant-loop-word : goal.invariant-loop-word
invariant-loop-word g l = right_words (g.D.ReadableDevice.meaning l.self.device.now) l.blocks l.index l.word ≡ true
