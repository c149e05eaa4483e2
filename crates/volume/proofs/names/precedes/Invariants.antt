-- What is left of both decides.
use Rattle.std.proofs.Common.{◌≡◌, drop}
use Rattle.volume.specs.Tree.{before}
use Rattle.volume.proofs.names.precedes.Given as goal

abbrev pub invariant-loop-i : goal.invariant-loop-i
invariant-loop-i l = before (drop l.i l.a) (drop l.i l.b) ≡ before l.a l.b
