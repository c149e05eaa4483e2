-- The first id that is not left out.
use Rattle.std.proofs.Common.{◌-◌, not, sym, refl, ◌∙◌, subst, rules}
use Rattle.std.proofs.lemmas.Iterator.{YieldsList-from_range}
use Rattle.std.proofs.lemmas.Iterator.Adapters.{option_map_id}
use Rattle.std.proofs.lemmas.Iterator.Search.{find_from_yields_List}
use Rattle.volume.specs.Check.{is_left}
use Rattle.pairlist.specs.Entries.{hiding_for, NextId}
use Rattle.pairlist.proofs.Stepping.{next_found}
use Rattle.pairlist.proofs.entries.next_id.Goals as goal

pub returns : goal.returns
returns c =
    let h = hiding_for c.args.hidden in
    let k = c.args.row in
    let i = c.args.from in
    let n = c.args.count in
    let is = find_from_yields_List (λ id. not (is_left h k id)) _ _ c.find.result c.find.ensures.ran (YieldsList-from_range i n (n - i) refl refl) (λ x b q k. (search rules, search rules)) in
    subst (NextId h k i n) (sym (sym (option_map_id c.find.result) ∙ is)) (next_found h k (n - i) i n refl)
