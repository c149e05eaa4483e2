-- The reader keeps its block, a commit is still to end, and what is left of the log makes the whole.
use Rattle.std.proofs.Common.{◌≡◌, ◌<◌}
use Rattle.metalog.specs.Reader.{cursor_of}
use Rattle.pairs.proofs.Folding.{Sofar}
use Rattle.pairs.proofs.fold.fold.Given as goal

abbrev pub invariant-loop-item : goal.invariant-loop-item
invariant-loop-item l = (l.item-iterator.block.now ≡ l.block) × (0 < l.left) × Sofar l.block (cursor_of l.item-iterator) l.item-iterator.at l.left l.table
