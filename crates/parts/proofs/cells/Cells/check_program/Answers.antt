-- Each way out is one reason to refuse a program, and the last is none.
use Rattle.std.proofs.Common.{sym, ap, ◌∙◌, rules}
use Rattle.flash.specs.Write.{is_erased}
use Rattle.parts.proofs.Checked.{program_outside, program_bad, program_used, program_passes}
use Rattle.parts.proofs.cells.Cells.check_program.Goals as goal

pub returns-then-not-is_unit : goal.returns-then-not-is_unit
returns-then-not-is_unit c = record { why = λ good _. program_outside c.args.self.now _ _ _ good (sym c.if-not-is_unit.ensures); inside = search rules }

pub returns-then-not-is_good : goal.returns-then-not-is_good
returns-then-not-is_good c = record { why = λ good g. program_bad c.args.self.now _ _ _ good (sym c.if-not-is_unit.ensures) (g ∙ c.if-not-is_good.true); inside = search rules }

pub returns-then-not-is_erased : goal.returns-then-not-is_erased
returns-then-not-is_erased c = record { why = λ good g. program_used c.args.self.now _ _ _ good (sym c.if-not-is_unit.ensures) (g ∙ c.if-not-is_good.false) (ap is_erased (sym c.part.ensures.value) ∙ sym c.if-not-is_erased.ensures); inside = search rules }

pub returns : goal.returns
returns c = record { why = λ good g. program_passes c.args.self.now _ _ _ good (sym c.if-not-is_unit.ensures) (g ∙ c.if-not-is_good.false) (ap is_erased (sym c.part.ensures.value) ∙ sym c.if-not-is_erased.ensures); inside = search rules }
