-- The part lies within the run, and is that part of the block.
use Rattle.std.proofs.Common.{◌≡◌, ◌+◌, ◌-◌, length, ap, arith, length-drop, length-take}
use Rattle.parts.proofs.Checked.{part_lies}
use Rattle.parts.proofs.Replaced.{part_within}
use Rattle.parts.proofs.cells.Cells.part.Goals as goal

pub returns : goal.returns
returns c =
    let lies = part_lies c.args.self.now c.args.block c.args.at c.args.n c.requires in
    let n : (c.place-start.result + c.args.n) - c.place-start.result ≡ c.args.n = omega arith in
    let value = c.deref-bytes.ensures.value in
    let place = c.place-start.ensures in
    let within = part_within c.args.self.now c.args.block c.args.at c.args.n c.requires in
    let long = ap length c.deref-bytes.ensures.value in
    record { value = cc; len = simp (length-take, length-drop) (omega arith) }
