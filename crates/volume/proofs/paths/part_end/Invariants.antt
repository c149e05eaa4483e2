-- What is left is split, with the part so far begun.
use Rattle.volume.proofs.Splits.{Begun}
use Rattle.volume.proofs.paths.part_end.Given as goal

abbrev pub invariant-loop-i : goal.invariant-loop-i
invariant-loop-i l = Begun l.path l.start l.i
