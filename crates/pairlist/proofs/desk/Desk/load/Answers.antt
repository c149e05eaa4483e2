-- A pair that is not there has no row; and one that is there is read again, and is the same.
use Rattle.std.proofs.Common.{◌≡◌, ℕ, Some, None, sym, refl, ap, ◌∙◌, arith}
use Rattle.std.specs.Option.{option_map}
use Rattle.volume.specs.Pair.{Pair}
use Rattle.volume.proofs.Lists.{same_answer}
use Rattle.pairlist.specs.Rows.{row_for}
use Rattle.pairlist.proofs.Loading.{row_stays, row_reads}
use Rattle.pairlist.proofs.desk.Desk.load.Goals as goal

pub returns-in_err-row : goal.returns-in_err-row
returns-in_err-row g c = λ ps p listed on there.
    let none : c.row.result ≡ None = grind arith in
    absurd (row_stays _ ps c.args.list.now c.args.place p listed there (ap (option_map row_for) (sym none) ∙ c.row.ensures))

pub returns-in_err-read : goal.returns-in_err-read
returns-in_err-read g c = λ ps p listed on there.
    let s = g.met.D.ReadableDevice.shaped c.args.device.now in
    let some : c.row.result ≡ Some c.in_ok-row.row = grind arith in
    let is = row_reads _ ps c.args.list.now c.args.place p listed there s c.in_ok-row.row (ap (option_map row_for) (sym some) ∙ c.row.ensures) in
    let not = c.in_err-read.ensures in
    let bad : ◌≡◌ {A = ℕ} 0 1 = cc in absurd (omega arith)

pub returns : goal.returns
returns g c = λ ps p listed on there.
    let s = g.met.D.ReadableDevice.shaped c.args.device.now in
    let some : c.row.result ≡ Some c.in_ok-row.row = grind arith in
    let is = row_reads _ ps c.args.list.now c.args.place p listed there s c.in_ok-row.row (ap (option_map row_for) (sym some) ∙ c.row.ensures) in
    record { place = refl; there = there; state = ap (λ (q : Pair). q.state) (same_answer _ p (sym c.in_ok-read.ensures ∙ is)) }
