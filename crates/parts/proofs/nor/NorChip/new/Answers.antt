-- One mark for each block, and cells of 0xff are an erased card.
use Rattle.std.proofs.Common.{not, length, sym, ap, ◌∙◌}
use Rattle.std.proofs.lemmas.List.FromFn.{length-map-range_with_len}
use Rattle.parts.specs.Chip.{is_in}
use Rattle.parts.specs.Held.{held_fresh}
use Rattle.parts.proofs.nor.NorChip.new.Goals as goal

pub invariant_of-result : goal.invariant_of-result
invariant_of-result c =
    let made = c.in_ok-cells.ensures in
    record { marked = ap length c.in_ok-good.ensures ∙ length-map-range_with_len (λ b. not (is_in b c.args.bad.now)) 0 c.args.block_count ∙ sym (ap (λ g. g.block_count) made.1.0) }

pub returns : goal.returns
returns c =
    let made = c.in_ok-cells.ensures in
    let power = c.default.ensures in
    let card = held_fresh c.in_ok-cells.cells _ _ _ _ made.1.0 made.1.1 c.in_ok-good.ensures in
    (made.0, cc)
