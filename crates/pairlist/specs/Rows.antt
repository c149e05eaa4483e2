-- What the rows of a list of pairs stand for.
use Rattle.std.specs.Prelude.{List, map}
use Rattle.volume.specs.Rows.{Row}
use Rattle.pairlist.specs.declared.rows.Row as code
use Rattle.pairlist.specs.declared.rows.PairList.{PairList}

abbrev pub row_for : code.Row → Row
row_for r = record { a = r.pair.first; b = r.pair.second; block = r.block; count = r.count; hard = r.hard; dir = r.dir; first = r.first }

-- THE ROWS of a list
abbrev pub rows_in : PairList → List Row
rows_in l = map row_for l.rows.items
