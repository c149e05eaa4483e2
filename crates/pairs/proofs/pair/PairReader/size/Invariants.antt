-- The sum so far is the size of the entries so far.
use Rattle.std.proofs.Common.{◌≡◌, ◌*◌, ◌≤◌, map, take}
use Rattle.volume.specs.State.{size_of}
use Rattle.pairs.specs.Slots.{slot_of}
use Rattle.pairs.proofs.pair.PairReader.size.Given as goal

abbrev pub invariant-loop-id : goal.invariant-loop-id
invariant-loop-id l = (l.total ≡ size_of (map (slot_of l.self.block) (take l.id l.self.table.entries.items))) × (l.total ≤ 8200 * l.id)
