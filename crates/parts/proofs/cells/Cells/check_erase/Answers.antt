-- Each way out is one reason to refuse an erase, and the last is none.
use Rattle.std.proofs.Common.{◌∙◌, rules}
use Rattle.parts.proofs.Checked.{erase_outside, erase_bad, erase_passes}
use Rattle.parts.proofs.cells.Cells.check_erase.Goals as goal

pub returns-then-block-self : goal.returns-then-block-self
returns-then-block-self c = record { why = λ good _. erase_outside c.args.self.now _ good c.if-block-self.true; inside = search rules }

pub returns-then-not-is_good : goal.returns-then-not-is_good
returns-then-not-is_good c = record { why = λ good g. erase_bad c.args.self.now _ good c.if-block-self.false (g ∙ c.if-not-is_good.true); inside = search rules }

pub returns : goal.returns
returns c = record { why = λ good g. erase_passes c.args.self.now _ good c.if-block-self.false (g ∙ c.if-not-is_good.false); inside = search rules }
