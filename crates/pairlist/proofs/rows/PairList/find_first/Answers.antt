-- The chain looks through the rows.
use Rattle.std.proofs.Common.{◌&&◌, ◌∙◌, rules}
use Rattle.std.proofs.lemmas.Iterator.{YieldsList-from_slice}
use Rattle.std.proofs.lemmas.Iterator.Adapters.{position_from-zero}
use Rattle.std.proofs.lemmas.Iterator.Search.{position_from_yields_List}
use Rattle.volume.specs.Global.{same_blocks}
use Rattle.pairlist.specs.declared.rows.Row.{Row}
use Rattle.pairlist.proofs.Searching.{position_first}
use Rattle.pairlist.proofs.rows.PairList.find_first.Goals as goal

pub returns : goal.returns
returns c =
    let rows = c.args.self.now.rows.items in
    let x = c.args.pair.first in
    let y = c.args.pair.second in
    let test = λ (r : Row). r.first && same_blocks r.pair.first r.pair.second x y in
    position_from_yields_List test _ _ c.position.result c.position.ensures.ran (YieldsList-from_slice _ (c.iter.ensures.rest ∙ c.deref.ensures.0)) (λ r b q k. (search rules, search rules))
    ∙ position_from-zero test rows ∙ position_first x y 0 rows
