-- What is still to be walked makes the whole list, and each pair takes a row.
use Rattle.std.proofs.Common.{◌-◌, length}
use Rattle.pairlist.proofs.Tripping.{Trip}
use Rattle.pairlist.proofs.walk.follow.Given as goal

abbrev pub invariant-loop-visit : goal.invariant-loop-visit
invariant-loop-visit g l = Trip (g.D.ReadableDevice.meaning l.device) l.list l.used l.pair.first l.pair.second l.dir l.first l.global

abbrev pub decreases-loop-visit : goal.decreases-loop-visit
decreases-loop-visit g l = 2048 - length l.list.rows.items
