-- The directory is none of the list; it must not be entered; or it is entered.
use Rattle.std.proofs.Common.{◌≡◌, true, ◌||◌, eqb, Some, None, sym, refl, ap, ◌∙◌, arith}
use Rattle.std.proofs.lemmas.Bool.{or_left, or_right, or_from, eq-eqb, ne_eqb}
use Rattle.std.proofs.lemmas.Result.{err_from_is_err_and}
use Rattle.std.specs.Option.{option_map}
use Rattle.blockset.specs.Holds.{holds}
use Rattle.pairlist.specs.Rows.{row_for}
use Rattle.volume.specs.declared.fault.What.TheVariants.{Directory}
use Rattle.reader.proofs.Judging.{no_directory, row_kept, directory_barred, directory_entered}
use Rattle.reader.proofs.judge.enter_directory.Goals as goal
use Rattle.reader.proofs.judge.enter_directory.Goals.{then-row-eq0-via-then-row-eq0, then-row-eq0-via-else-row-eq0+then-contains}

pub returns-in_err-place : goal.returns-in_err-place
returns-in_err-place c = λ card ps h dirs listed marks.
    let p = err_from_is_err_and c.from_residual.result c.from_residual.ensures.1 in
    let none : c.find_first.result ≡ None = grind arith in
    let why : c.in_err-place.field-0.0 ≡ Directory = grind arith in
    rw (p.1, p.2) (why, no_directory card ps c.args.list.now h c.args.pair.first c.args.pair.second listed dirs (sym none ∙ c.find_first.ensures))

pub returns-in_err-row : goal.returns-in_err-row
returns-in_err-row c = λ card ps h dirs listed marks.
    let some : c.find_first.result ≡ Some c.in_ok-place.place = grind arith in
    let none : c.row.result ≡ None = grind arith in
    absurd (row_kept card ps c.args.list.now h c.args.pair.first c.args.pair.second listed c.in_ok-place.place (sym some ∙ c.find_first.ensures) (ap (option_map row_for) (sym none) ∙ c.row.ensures))

pub returns-then-row-eq0 : goal.returns-then-row-eq0
returns-then-row-eq0 c = λ card ps h dirs listed marks.
    let dir = c.in_ok-row.row.dir in
    let named = c.args.named.now in
    let some : c.find_first.result ≡ Some c.in_ok-place.place = grind arith in
    let row : c.row.result ≡ Some c.in_ok-row.row = grind arith in
    let bars : (eqb dir 0 || holds named dir) ≡ true =
    elim c.then-row-eq0.branch [
      | then-row-eq0-via-then-row-eq0 w ↦ or_left (eqb dir 0) (holds named dir) (eq-eqb dir 0 w.if-row-eq0.true)
      | then-row-eq0-via-else-row-eq0+then-contains w ↦ or_right (eqb dir 0) (holds named dir) (sym w.contains.ensures ∙ w.if-contains.true)
    ] in (
      refl,
      directory_barred card ps c.args.list.now h c.args.pair.first c.args.pair.second listed c.in_ok-place.place (sym some ∙ c.find_first.ensures) c.in_ok-row.row (ap (option_map row_for) (sym row) ∙ c.row.ensures) named dirs marks bars,
    )

pub returns : goal.returns
returns c = λ card ps h dirs listed marks.
    let dir = c.in_ok-row.row.dir in
    let named = c.args.named.now in
    let some : c.find_first.result ≡ Some c.in_ok-place.place = grind arith in
    let row : c.row.result ≡ Some c.in_ok-row.row = grind arith in
    directory_entered card ps c.args.list.now h c.args.pair.first c.args.pair.second listed c.in_ok-place.place (sym some ∙ c.find_first.ensures) c.in_ok-row.row (ap (option_map row_for) (sym row) ∙ c.row.ensures) named c.insert.new.self dirs marks
    (or_from (eqb dir 0) (holds named dir) (ne_eqb dir 0 c.if-row-eq0.false) (sym c.if-contains.ensures)) c.insert.ensures
