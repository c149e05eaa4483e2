-- Refused outside; else the bytes of the block.
use Rattle.std.proofs.Common.{sym, refl, ◌∙◌}
use Rattle.parts.proofs.Checked.{read_outside, read_inside}
use Rattle.parts.proofs.cells.Cells.read.Goals as goal

pub returns-then-not-is_inside : goal.returns-then-not-is_inside
returns-then-not-is_inside c = λ good. (read_outside c.args.self.now _ _ _ good (sym c.if-not-is_inside.ensures), refl)

pub returns : goal.returns
returns c = λ good. (read_inside c.args.self.now _ _ _ good (sym c.if-not-is_inside.ensures), c.copy_from_slice.ensures.after ∙ c.part.ensures.value)
