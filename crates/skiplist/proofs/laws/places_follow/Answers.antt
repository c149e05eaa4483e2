-- The formula agrees with the layout,
-- in which places follow one another.
use Rattle.std.proofs.Common.{rules}
use Rattle.skiplist.proofs.Following.{formula_follows}
use Rattle.skiplist.proofs.laws.places_follow.Goals as goal

pub returns : goal.returns
returns c = record { first = search rules; law = formula_follows }
