-- The entry has its bytes.
use Rattle.pairs.proofs.Applied.{holds_done}
use Rattle.pairs.proofs.table.Table.hold_at.Goals as goal

pub returns-clause-change : goal.returns-clause-change
returns-clause-change c =
    let there = c.in_ok-span.ensures in
    holds_done c.args.self.now c.set_content.new.self c.args.id c.args.at c.args.bytes.now _ there.1 there.0 c.set_content.result c.set_content.ensures.content
