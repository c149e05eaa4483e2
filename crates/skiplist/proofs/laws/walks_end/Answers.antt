-- The steps of a walk grow with each block, then shrink with each,
-- so that two for each binary digit suffice.
use Rattle.std.proofs.Common.{rules}
use Rattle.skiplist.proofs.Walks.{walks_end}
use Rattle.skiplist.proofs.laws.walks_end.Goals as goal

pub returns : goal.returns
returns c = record { steps = search rules; law = walks_end }
