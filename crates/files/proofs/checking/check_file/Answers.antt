-- Each way out of the check is one answer of its steps.
use Rattle.std.proofs.Common.{◌≡◌, suc, ◌+◌, ◌-◌, arith}
use Rattle.std.proofs.lemmas.Result.{err_from_is_err_and}
use Rattle.files.proofs.Verdicts.{verdict_chain, checked_all}
use Rattle.files.proofs.Outcomes.{refused_verdict}
use Rattle.files.proofs.checking.check_file.Goals as goal

pub returns-in_err-file : goal.returns-in_err-file
returns-in_err-file g c =
    let p = err_from_is_err_and c.from_residual.result c.from_residual.ensures.1 in
    rw (p.1, p.2) (λ seen m. refused_verdict (g.D.ReadableDevice.meaning c.args.device.now) seen c.args.head c.args.length _ c.in_err-file.ensures.opened)

pub returns-in_err-mark_chain : goal.returns-in_err-mark_chain
returns-in_err-mark_chain g c =
    let p = err_from_is_err_and c.from_residual-in_err-mark_chain.result c.from_residual-in_err-mark_chain.ensures.1 in
    rw (p.1, p.2) (λ seen m. verdict_chain (g.D.ReadableDevice.meaning c.args.device.now) seen c.args.head c.args.length c.in_ok-file.file.size c.in_ok-file.file.last _ c.in_ok-file.ensures.opened.0 c.in_ok-file.ensures.opened.1 (rw (c.in_ok-file.ensures.device, c.in_ok-file.ensures.head) at (c.in_err-mark_chain.ensures seen m)))

pub returns : goal.returns
returns g c =
    let card = g.D.ReadableDevice.meaning c.args.device.now in
    let last = c.in_ok-file.file.last in
    let whole : last + 1 - 0 ≡ suc last = omega arith in
    λ seen m.
    let done = rw (c.in_ok-file.ensures.device, c.in_ok-file.ensures.head) at (c.in_ok-mark_chain.ensures seen m) in
    let words = rw (c.in_ok-file.ensures.device) at c.check_words.ensures in
    checked_all card seen c.args.head c.args.length c.in_ok-file.file.size last (last + 1 - 0) c.mark_chain.new.used c.mark_chain.new.blocks c.check_words.result c.in_ok-file.ensures.opened.0 c.in_ok-file.ensures.opened.1 whole done.0 done.1 done.2 words
