-- The bytes so far are those of the content; each turn copies some.
use Rattle.std.proofs.Common.{◌≡◌, ℕ, suc, ◌+◌, ◌-◌, ◌≤◌, List, length, take}
use Rattle.flash.specs.Write.{part}
use Rattle.skiplist.specs.Layout.{start_of}
use Rattle.skiplist.specs.Sizes.{bytes_of}
use Rattle.volume.specs.Files.{content_from}
use Rattle.files.specs.Steps.{FileAt}
use Rattle.files.proofs.file.File.copy.Given as goal

abbrev pub invariant-loop-done : goal.invariant-loop-done
invariant-loop-done g l =
    (l.done ≤ length l.initial.out)
    × ((bs : List ℕ) → FileAt (g.D.ReadableDevice.meaning l.self.device.now) bs l.self.head l.self.last → l.place + length l.initial.out ≤ start_of (bytes_of l.self.size) (suc l.self.last)
    → take l.done l.out ≡ part (content_from (g.D.ReadableDevice.meaning l.self.device.now) 0 bs) l.place l.done)

abbrev pub decreases-loop-done : goal.decreases-loop-done
decreases-loop-done g l = length l.initial.out - l.done
