-- The entries so far are those of the beginning and blank ones.
use Rattle.std.proofs.Common.{◌≡◌, length}
use Rattle.pairs.proofs.Growth.{Growing}
use Rattle.pairs.proofs.table.Table.grow.Given as goal

abbrev pub invariant-loop : goal.invariant-loop
invariant-loop l = (length l.self.entries.items ≡ l.counter) × Growing l.initial.self l.self l.id
