-- The card or the length is refused.
use Rattle.std.proofs.lemmas.Result.{err_from_is_err_and}
use Rattle.files.proofs.Outcomes.{refused_card, refused_long}
use Rattle.files.proofs.file.File.open.Goals as goal

pub returns-in_err-size-clause-opened : goal.returns-in_err-size-clause-opened
returns-in_err-size-clause-opened g c =
    let p = err_from_is_err_and c.from_residual.result c.from_residual.ensures.1 in
    rw (p.1, p.2) (refused_card _ c.args.length _ c.in_err-size.ensures)

pub returns-in_err-last-clause-opened : goal.returns-in_err-last-clause-opened
returns-in_err-last-clause-opened g c =
    let p = err_from_is_err_and c.from_residual-in_err-last.result c.from_residual-in_err-last.ensures.1 in
    rw (p.1, p.2) (refused_long _ c.args.length c.in_ok-size.size c.last_block.result _ c.in_ok-size.ensures c.last_block.ensures c.in_err-last.ensures.value)
