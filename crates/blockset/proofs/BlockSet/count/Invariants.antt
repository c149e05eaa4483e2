-- So far the blocks below the next one are counted.
use Rattle.std.proofs.Common.{◌≡◌, ◌≤◌}
use Rattle.blockset.specs.Holds.{holds, counted}
use Rattle.blockset.proofs.BlockSet.count.Given as goal

abbrev pub invariant-loop-block : goal.invariant-loop-block
invariant-loop-block l = (l.held ≡ counted l.block (holds l.self)) × (l.held ≤ l.block)
