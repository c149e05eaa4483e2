-- The four tests of a name, one after the other.
use Rattle.std.proofs.Common.{rules}
use Rattle.volume.specs.Tree.{is_name}
use Rattle.volume.proofs.names.is_name.Goals as goal

pub returns-then-is_plain : goal.returns-then-is_plain
unfolding is_name
returns-then-is_plain c = search rules

pub returns-else-is_plain : goal.returns-else-is_plain
unfolding is_name
returns-else-is_plain c = search rules
