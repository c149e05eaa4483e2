-- Refused before the first write, or what the loop did.
use Rattle.flash.proofs.Filling.{fits_from, free_fits, tried_from_runs, pasted_from_runs, takes_free, unfit_settled}
use Rattle.flash.proofs.writing.program_units.Goals as goal

pub returns-in_err-check_fits-clause-free : goal.returns-in_err-check_fits-clause-free
returns-in_err-check_fits-clause-free g c = λ l h. elim (unfit_settled _ _ _ (free_fits _ c.args.block _ _ l h) c.in_err-check_fits.ensures.why) [ ]

pub program_each-requires : goal.program_each-requires
program_each-requires g c =
    let u = fits_from _ c.args.at _ c.in_ok-check_fits.ensures.why in record { content_len = u.1; content_bound = c.in_ok-check_fits.ensures.below }

pub returns : goal.returns
returns g c =
    let none = c.in_ok-check_fits.ensures.why in
    let u = fits_from _ c.args.at _ none in
    let shaped = g.met.D.ReadableDevice.shaped c.args.device.now in
    let ran = c.program_each.ensures in
    record {
      asked = tried_from_runs c.args.at _ _ _ c.program_each.result _ _ _ none ran;
      holds = pasted_from_runs _ _ c.args.at _ c.program_each.result _ _ _ shaped u.1 ran;
      free = takes_free _ _ c.args.at _ c.program_each.result _ _ _ shaped ran;
    }
