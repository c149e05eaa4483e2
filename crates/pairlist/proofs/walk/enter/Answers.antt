-- Each test that does not pass ends it, and a card that passes them all can be read.
use Rattle.std.proofs.Common.{Err, sym, ap, ◌∙◌, rules}
use Rattle.std.proofs.lemmas.Result.{err_from_is_err_and}
use Rattle.volume.specs.Pair.{fault}
use Rattle.volume.proofs.Retold.{retold_is}
use Rattle.pairlist.proofs.Entering.{stops_by, passes_by, stop_first, stop_second}
use Rattle.pairlist.proofs.walk.enter.Goals as goal

pub returns-in_err-map_err : goal.returns-in_err-map_err
returns-in_err-map_err g c =
    let p = err_from_is_err_and c.from_residual.result c.from_residual.ensures.1 in
    let is = retold_is (λ w. fault w 0 0) _ c.card_size.result c.map_err.result c.map_err.ensures.cases (λ e f q. search rules) in
    rw (p.1, p.2) (stops_by _ c.card_size.result c.map_err.result _ c.card_size.ensures is c.in_err-map_err.was)

pub returns-then-not-is_good : goal.returns-then-not-is_good
returns-then-not-is_good g c =
    let is = retold_is (λ w. fault w 0 0) _ c.card_size.result c.map_err.result c.map_err.ensures.cases (λ e f q. search rules) in
    let passes = passes_by _ c.card_size.result c.map_err.result _ c.card_size.ensures is c.in_ok-map_err.was in
    stop_first _ passes.0 passes.1 (sym c.if-not-is_good.ensures) ∙ ap Err (sym c.at.ensures)

pub returns-then-not-is_good-2 : goal.returns-then-not-is_good-2
returns-then-not-is_good-2 g c =
    let is = retold_is (λ w. fault w 0 0) _ c.card_size.result c.map_err.result c.map_err.ensures.cases (λ e f q. search rules) in
    let passes = passes_by _ c.card_size.result c.map_err.result _ c.card_size.ensures is c.in_ok-map_err.was in
    stop_second _ passes.0 passes.1 (sym c.if-not-is_good.ensures) (sym c.if-not-is_good-2.ensures) ∙ ap Err (sym c.at-then-not-is_good-2.ensures)
