-- The entries so far are in the buffer, which is still the one that was lent.
use Rattle.std.proofs.Common.{◌≡◌, map}
use Rattle.metalog.specs.Writer.{piece_of}
use Rattle.metalog.proofs.Parts.{Sofar}
use Rattle.metalog.proofs.writer.CommitWriter.put_all.Given as goal

abbrev pub invariant-loop-part : goal.invariant-loop-part
invariant-loop-part l =
    (l.self.buffer.ghost_name ≡ l.initial.self.buffer.ghost_name)
    × Sofar l.initial.self.buffer.now l.initial.self.used l.initial.self.prior (map piece_of l.parts) l.part-index l.self.buffer.now l.self.used l.self.prior
