-- The two ways of a tag that ends a commit.
use Rattle.std.proofs.Common.{rules}
use Rattle.metalog.specs.Log.{closing}
use Rattle.metalog.proofs.reader.LogReader.close.Goals as goal

pub returns-then-not-closes : goal.returns-then-not-closes
unfolding closing
returns-then-not-closes c = search rules

pub returns : goal.returns
unfolding closing
returns c = search rules
