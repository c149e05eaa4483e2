-- Where a reader begins.
use Rattle.std.proofs.Common.{rules}
use Rattle.metalog.specs.Log.{start}
use Rattle.metalog.proofs.reader.LogReader.new.Goals as goal

pub returns-clause-cursor : goal.returns-clause-cursor
unfolding start
returns-clause-cursor c = search rules
