-- What passed its checks is erased, and the marks stay.
use Rattle.std.proofs.Common.{true, false, replicate, sym, refl, ap, ◌∙◌}
use Rattle.parts.specs.Cells.{card_held}
use Rattle.parts.specs.Held.{held_erased}
use Rattle.parts.proofs.memory.MemoryBoardWritableDevice.erase.Goals as goal

pub returns : goal.returns
returns c =
    let checked = c.in_ok-check_erase.ensures in (
      checked.why (replicate c.args.self.now.cells.geometry.block_count true) (sym c.is_good.ensures),
      ap (λ g. card_held c.erase_first.new.self (replicate g.block_count true) false) c.erase_first.ensures.same_geometry ∙ held_erased c.args.self.now.cells _ _ _ _ _ refl checked.inside c.erase_first.ensures,
      record { each = λ _ _. tt },
    )
