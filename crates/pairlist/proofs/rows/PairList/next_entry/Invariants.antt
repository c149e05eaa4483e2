-- The iterator is at its number, and what is left of the directory is what is left from the place at which it was begun.
use Rattle.std.proofs.Common.{◌≡◌, ◌+◌, ◌<◌, ◌≤◌, ◌⊎◌, drop}
use Rattle.std.specs.Iterator.Adapters.{enumerate_source, enumerate_count, skip_source, skip_count}
use Rattle.std.specs.Slice.Iter.{iter_rest}
use Rattle.volume.specs.Spots.{spots_at}
use Rattle.pairlist.specs.Entries.{hiding_for}
use Rattle.pairlist.specs.Rows.{rows_in}
use Rattle.pairlist.proofs.rows.PairList.next_entry.Given as goal

abbrev pub invariant-loop-place : goal.invariant-loop-place
invariant-loop-place l =
    let numbered = skip_source l.place-iterator in
    let k = enumerate_count numbered + skip_count l.place-iterator in
    (iter_rest (enumerate_source numbered) ≡ drop (enumerate_count numbered) l.self.rows.items)
    × (spots_at (hiding_for l.hidden) (rows_in l.self) k l.id ≡ spots_at (hiding_for l.hidden) (rows_in l.self) l.fn.from.row l.initial.id)
    × ((l.fn.from.row < k) ⊎ ((k ≡ l.fn.from.row) × (l.initial.id ≤ l.id)))
