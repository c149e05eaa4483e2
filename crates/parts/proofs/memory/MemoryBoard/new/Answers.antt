-- Cells of 0xff are an erased card.
use Rattle.std.proofs.Common.{true, replicate, ap}
use Rattle.parts.specs.Held.{held_fresh}
use Rattle.parts.proofs.memory.MemoryBoard.new.Goals as goal

pub returns : goal.returns
returns c =
    let made = c.in_ok-cells.ensures in
    (made.0, held_fresh c.in_ok-cells.cells _ _ _ _ made.1.0 made.1.1 (ap (λ g. replicate g.block_count true) made.1.0))
