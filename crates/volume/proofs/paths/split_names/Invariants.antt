-- The parts so far are names at places; each turn leaves less of the path.
use Rattle.std.proofs.Common.{◌-◌, length}
use Rattle.volume.proofs.Splits.{SplitTo}
use Rattle.volume.proofs.paths.split_names.Given as goal

abbrev pub invariant-parts : goal.invariant-parts
invariant-parts l = SplitTo l.path l.places l.count l.start

abbrev pub decreases-parts : goal.decreases-parts
decreases-parts l = length l.path - l.start
