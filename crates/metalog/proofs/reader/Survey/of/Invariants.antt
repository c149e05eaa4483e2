-- What is left of the log makes the whole count.
use Rattle.std.proofs.Common.{◌≡◌}
use Rattle.metalog.specs.Reader.{end_for, cursor_of}
use Rattle.metalog.proofs.Turns.{Sofar}
use Rattle.metalog.proofs.reader.Survey.of.Given as goal

abbrev pub invariant-loop-item : goal.invariant-loop-item
invariant-loop-item l =
    (l.item-iterator.block.now ≡ l.block) × Sofar l.block (cursor_of l.item-iterator) l.item-iterator.at l.commits (end_for l.end)
