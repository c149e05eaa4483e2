-- The units that were taken so far were programmed.
use Rattle.std.proofs.Common.{◌≡◌}
use Rattle.std.specs.Iterator.Adapters.{enumerate_source, enumerate_count}
use Rattle.std.specs.Slice.Iter.{chunks_exact_rest, chunks_exact_size}
use Rattle.flash.proofs.Filling.{UnitsDone}
use Rattle.flash.proofs.writing.program_each.Given as goal

abbrev pub invariant-loop-index : goal.invariant-loop-index
invariant-loop-index g l =
    let m = g.D.ReadableDevice.meaning in
    let n = g.D.WritableDevice.history in
    let units = enumerate_source l.index-iterator in
    (chunks_exact_size units ≡ 16) × UnitsDone l.block l.at (enumerate_count l.index-iterator) l.content (chunks_exact_rest units) (m l.initial.device) (m l.device) (n l.initial.device) (n l.device)
