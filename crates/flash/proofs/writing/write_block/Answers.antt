-- Refused before the erase, stopped in the erase, or what the units did behind it.
use Rattle.std.proofs.lemmas.Result.{err_from_is_err_and}
use Rattle.flash.proofs.Filling.{fits_from}
use Rattle.flash.proofs.Rewriting.{outcome_not_erased, outcome_units}
use Rattle.flash.proofs.writing.write_block.Goals as goal

pub program_each-requires : goal.program_each-requires
program_each-requires g c =
    let u = fits_from _ 0 _ c.in_ok-check_fits.ensures.why in record { content_len = u.1; content_bound = c.in_ok-check_fits.ensures.below }

pub returns-in_err-erase : goal.returns-in_err-erase
returns-in_err-erase g c =
    let p = err_from_is_err_and c.from_residual-in_err-erase.result c.from_residual-in_err-erase.ensures.1 in
    let o = outcome_not_erased _ c.args.block c.args.content.now _ _ _ _ c.in_ok-check_fits.ensures.why c.in_err-erase.ensures in
    rw (p.1, p.2) (record { asked = o.asked; wrote = o.wrote })

pub returns : goal.returns
returns g c =
    let shaped = g.met.D.ReadableDevice.shaped c.erase.new.self in
    let o = outcome_units _ c.args.block c.args.content.now _ c.program_each.result _ _ _ _ shaped c.in_ok-check_fits.ensures.why c.in_ok-erase.ensures c.program_each.ensures in
    record { asked = o.asked; wrote = o.wrote }
