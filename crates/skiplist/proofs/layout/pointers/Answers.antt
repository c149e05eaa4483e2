-- The zeros at the end of a block's number say which powers of two divide it,
-- and so which words the block has.
use Rattle.std.proofs.Common.{arith, rules}
use Rattle.skiplist.proofs.Words.{words_none, words_later}
use Rattle.skiplist.proofs.layout.pointers.Goals as goal

pub returns-else-index-eq0 : goal.returns-else-index-eq0
returns-else-index-eq0 c = record { is = search rules; words = words_later c.args.index c.if-index-eq0.false (omega arith) }
