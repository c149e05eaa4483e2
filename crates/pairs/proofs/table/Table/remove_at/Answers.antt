-- The entry is gone.
use Rattle.std.proofs.Common.{◌≡◌, true, ◌&&◌, eqb, ltb, length, refl, arith}
use Rattle.std.proofs.lemmas.Bool.Decides.{nat_tests}
use Rattle.pairs.proofs.Applied.{removes_done}
use Rattle.pairs.proofs.table.Table.remove_at.Goals as goal

pub returns-clause-change : goal.returns-clause-change
returns-clause-change c at =
    let t = c.args.self.now in
    let i = c.args.id in
    let xs = c.args.bytes.now in
    let pass : (eqb (length xs) 0 && ltb i (length t.entries.items)) ≡ true = grind (arith, nat_tests) in
    removes_done t _ i at xs pass (record { entries = c.remove.ensures.items; tail = refl; moves = refl })
