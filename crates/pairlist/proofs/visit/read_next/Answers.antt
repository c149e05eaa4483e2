-- The pair could not be read; something is wrong with it; or it is what the list goes on with.
use Rattle.std.proofs.Common.{◌≡◌, Ok, Err, refl, ap, ◌∙◌, arith}
use Rattle.std.proofs.lemmas.Grind.{common_steps}
use Rattle.std.proofs.lemmas.Result.{err_from_is_err_and}
use Rattle.pairs.specs.Pairs.{state_in}
use Rattle.volume.specs.Check.{hardly}
use Rattle.volume.specs.Global as global
use Rattle.volume.specs.Pair.{Pair}
use Rattle.volume.specs.Thread.{next_of}
use Rattle.pairlist.proofs.Visiting.{checked, moves_default, visit_fails, visit_checked}
use Rattle.pairlist.proofs.visit.read_next.Goals as goal

pub returns-in_err-block : goal.returns-in_err-block
returns-in_err-block g c = λ seen marks.
    let p = err_from_is_err_and c.from_residual.result c.from_residual.ensures.1 in
    rw (p.1, p.2) (visit_fails _ seen c.args.pair.first c.args.pair.second c.requires _ c.in_err-block.ensures)

pub returns-in_err-map_err : goal.returns-in_err-map_err
returns-in_err-map_err g c = λ seen marks.
    let p = err_from_is_err_and c.from_residual-in_err-map_err.result c.from_residual-in_err-map_err.ensures.1 in
    let read : Pair = record { a = c.args.pair.first; b = c.args.pair.second; block = c.in_ok-block.block; state = state_in c.read.new.self } in
    let is : checked c.check_pair.result read ≡ Err c.in_err-map_err.field-0.0 = grind (arith, common_steps) in
    rw (p.1, p.2) (visit_checked _ seen c.args.pair.first c.args.pair.second c.requires read _ c.in_ok-block.ensures (c.check_pair.ensures seen marks) ∙ is)

pub returns : goal.returns
returns g c = λ seen marks.
    let read : Pair = record { a = c.args.pair.first; b = c.args.pair.second; block = c.in_ok-block.block; state = state_in c.read.new.self } in
    let is : checked c.check_pair.result read ≡ Ok read = grind (arith, common_steps) in (
      read,
      (
        visit_checked _ seen c.args.pair.first c.args.pair.second c.requires read _ c.in_ok-block.ensures (c.check_pair.ensures seen marks) ∙ is,
        record {
          block = refl;
          count = c.count.ensures.count;
          hard = c.next_of.ensures.hard ∙ ap hardly c.tail.ensures;
          next = c.next_of.ensures.next ∙ ap next_of c.tail.ensures;
          moves = moves_default c.moves.result c.unwrap_or_default.result c.unwrap_or_default.ensures (λ m zero. λ j. record { word = zero.0 j; first = zero.1.0 j; second = zero.1.1 j }) ∙ ap global.moves_of c.moves.ensures;
        },
      ),
    )
