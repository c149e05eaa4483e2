-- The entry has its pair.
use Rattle.pairs.proofs.Applied.{points_done}
use Rattle.pairs.proofs.table.Table.point_at.Goals as goal

pub returns-clause-change : goal.returns-clause-change
returns-clause-change c at =
    points_done c.args.self.now c.set_content.new.self c.args.id at c.args.bytes.now _ c.in_ok-first.ensures c.set_content.result c.set_content.ensures.content
