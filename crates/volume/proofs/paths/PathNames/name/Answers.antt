-- A place within the path is a part of it; one that is not, or is no place of the table, is empty.
use Rattle.std.proofs.Common.{get_or, sym, ap, ◌∙◌}
use Rattle.std.proofs.lemmas.List.{get_or_past}
use Rattle.volume.specs.Parsed.{no_place, name_at}
use Rattle.volume.proofs.Splits.{name_cut, name_none}
use Rattle.volume.proofs.paths.PathNames.name.Goals as goal

pub returns-then-number-places : goal.returns-then-number-places
returns-then-number-places c = ap (name_at c.args.path.now) (sym (get_or_past c.args.self.now.places c.args.number no_place c.if-number-places.true))

pub returns-then-start-end : goal.returns-then-start-end
returns-then-start-end c =
    let path = c.args.path.now in
    let p = get_or c.args.self.now.places c.args.number no_place in
    let end = c.min-end.result in
    sym (name_cut path p end c.min-end.ensures ∙ name_none path p.start end c.if-start-end.true)

pub returns : goal.returns
returns c = sym (name_cut c.args.path.now (get_or c.args.self.now.places c.args.number no_place) c.min-end.result c.min-end.ensures)
