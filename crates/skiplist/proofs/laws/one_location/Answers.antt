-- Blocks begin in their order,
-- so a place stands once.
use Rattle.std.proofs.Common.{rules}
use Rattle.skiplist.proofs.Starts.{stands_once}
use Rattle.skiplist.proofs.laws.one_location.Goals as goal

pub returns : goal.returns
returns c = record { locations = search rules; law = stands_once }
