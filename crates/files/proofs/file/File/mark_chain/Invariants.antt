-- The blocks behind the present one are marked and stored; each turn goes one block back.
use Rattle.std.proofs.Common.{ℕ, ◌≤◌, List}
use Rattle.volume.specs.Marks.{Marks}
use Rattle.files.proofs.Chains.{Onward}
use Rattle.files.proofs.file.File.mark_chain.Given as goal

abbrev pub invariant-loop-blocks : goal.invariant-loop-blocks
invariant-loop-blocks g l =
    (l.index ≤ l.self.last)
    × ((seen : List ℕ) → Marks l.initial.used seen → Onward (g.D.ReadableDevice.meaning l.self.device.now) l.self.last l.self.head seen l.used l.index l.block l.blocks)

abbrev pub decreases-loop-blocks : goal.decreases-loop-blocks
decreases-loop-blocks g l = l.index
