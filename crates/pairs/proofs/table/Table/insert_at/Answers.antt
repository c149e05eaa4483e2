-- The entry is there.
use Rattle.std.proofs.Common.{◌≡◌, true, ◌&&◌, eqb, leb, length, refl, ap, ◌∙◌, arith}
use Rattle.std.specs.List.{insert}
use Rattle.pairs.specs.Slots.{none}
use Rattle.std.proofs.lemmas.Bool.Decides.{nat_tests}
use Rattle.pairs.proofs.Applied.{inserts_done}
use Rattle.pairs.proofs.table.Table.insert_at.Goals as goal

pub returns-clause-change : goal.returns-clause-change
returns-clause-change c at =
    let t = c.args.self.now in
    let i = c.args.id in
    let xs = c.args.bytes.now in
    let pass : (eqb (length xs) 0 && leb i (length t.entries.items)) ≡ true = grind (arith, nat_tests) in
    let blank : c.default.result ≡ none = λ j. record { name = c.default.ensures.0 j; content = c.default.ensures.1 j } in
    inserts_done t _ i at xs pass (record { entries = c.insert.ensures.items ∙ ap (insert t.entries.items i) blank; tail = refl; moves = refl })
