-- The known points are computed,
-- and so is how many there are.
use Rattle.std.proofs.Common.{rules}
use Rattle.skiplist.proofs.Points.{known_points}
use Rattle.skiplist.proofs.laws.known_places.Goals as goal

pub returns : goal.returns
returns c = record { points = search rules; law = known_points }
