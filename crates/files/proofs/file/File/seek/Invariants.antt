-- The present block is the file's block of its number, which is not before the goal; each step goes back.
use Rattle.std.proofs.Common.{ℕ, ◌≤◌, List}
use Rattle.files.specs.Steps.{FileAt}
use Rattle.files.proofs.Reaches.{Reached}
use Rattle.files.proofs.file.File.seek.Given as goal

abbrev pub invariant-loop-word : goal.invariant-loop-word
invariant-loop-word g l =
    (l.from ≤ l.self.last)
    × ((bs : List ℕ) → FileAt (g.D.ReadableDevice.meaning l.self.device.now) bs l.self.head l.self.last → l.to ≤ l.self.last → Reached bs l.self.last l.to l.from l.block)

abbrev pub decreases-loop-word : goal.decreases-loop-word
decreases-loop-word g l = l.from
