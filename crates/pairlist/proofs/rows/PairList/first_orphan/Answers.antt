-- The chain looks through the rows.
use Rattle.std.proofs.Common.{◌≡◌, not, ◌&&◌, ◌||◌, eqb, ap, ◌∙◌, rules}
use Rattle.std.proofs.lemmas.Iterator.{YieldsList-from_slice}
use Rattle.std.proofs.lemmas.Iterator.Search.{find_from_yields_List}
use Rattle.std.specs.Option.{option_map}
use Rattle.blockset.specs.Holds.{holds}
use Rattle.pairlist.specs.declared.rows.Row.{Row}
use Rattle.pairlist.proofs.Searching.{find_orphan}
use Rattle.pairlist.proofs.rows.PairList.first_orphan.Goals as goal

pub returns : goal.returns
returns c =
    let rows = c.args.self.now.rows.items in
    let named = holds c.args.named.now in
    let is = find_from_yields_List (λ (r : Row). r.first && not (eqb r.dir 0 || named r.dir)) _ _ c.find.result c.find.ensures.ran (YieldsList-from_slice _ (c.iter.ensures.rest ∙ c.deref.ensures.0)) (λ r b q k. (search rules, search rules)) in
    let block : c.map.result ≡ option_map (λ (r : Row). r.block) (option_map (λ r. r.now) c.find.result) = search rules in
    block ∙ ap (option_map (λ (r : Row). r.block)) is ∙ find_orphan named rows
