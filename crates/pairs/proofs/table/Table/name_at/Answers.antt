-- The entry has its name.
use Rattle.std.proofs.Common.{◌≡◌, true, ◌&&◌, leb, length, arith}
use Rattle.std.proofs.lemmas.Bool.Decides.{nat_tests}
use Rattle.pairs.proofs.Applied.{names_done}
use Rattle.pairs.proofs.table.Table.name_at.Goals as goal

pub returns-clause-change : goal.returns-clause-change
returns-clause-change c =
    let xs = c.args.bytes.now in
    let pass : (leb 1 (length xs) && leb (length xs) 64) ≡ true = grind (arith, nat_tests) in
    names_done c.args.self.now c.set_name.new.self c.args.id c.args.at xs c.args.kind _ c.in_ok-span.ensures.1 pass c.set_name.ensures
