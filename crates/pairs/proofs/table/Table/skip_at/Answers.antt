-- The entry has its file.
use Rattle.std.proofs.Common.{arith}
use Rattle.std.proofs.lemmas.Bool.Decides.{nat_tests}
use Rattle.pairs.proofs.Applied.{skips_done}
use Rattle.pairs.proofs.table.Table.skip_at.Goals as goal

pub returns-clause-change : goal.returns-clause-change
returns-clause-change c at =
    skips_done c.args.self.now c.set_content.new.self c.args.id at c.args.bytes.now _ c.in_ok-head.ensures (grind (arith, nat_tests)) (grind (arith, nat_tests)) c.set_content.result c.set_content.ensures.content
