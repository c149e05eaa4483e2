-- A dark chip refuses; a write that passed its checks is torn at half or done.
use Rattle.std.proofs.Common.{vec_items, sym, refl, inl}
use Rattle.flash.specs.Write.{erase}
use Rattle.flash.proofs.Refusals.{dark_refuses}
use Rattle.parts.specs.Held.{held_erased}
use Rattle.parts.proofs.Halves.{erase_torn, cut_exactly, done_exactly}
use Rattle.parts.proofs.nor.device.NorChipWritableDevice.erase.Goals as goal

pub returns-then-self : goal.returns-then-self
returns-then-self c =
    let dark = dark_refuses _ _ c.if-self.true in
    record { answers = inl (dark, refl, record { each = λ _ _. tt }); exact = inl (dark, refl) }

pub returns-then-spend : goal.returns-then-spend
returns-then-spend c =
    let self = c.args.self.now in
    let good = vec_items self.good in
    let checked = c.in_ok-check_erase.ensures in
    let spent = c.if-spend.ensures in
    let left = erase_torn self.cells _ _ c.erase_first.new.self good self.power.dark refl c.erase_first.ensures in
    let both = cut_exactly self.cells c.erase_first.new.self self.power.left c.spend.new.self.left good self.power.dark c.spend.new.self.dark (erase c.args.block) self.marked c.if-self.false (checked.why good (sym c.is_good.ensures)) spent.goes spent.left spent.dark left in
    record { answers = both.0; exact = both.1 }

pub returns : goal.returns
returns c =
    let self = c.args.self.now in
    let good = vec_items self.good in
    let checked = c.in_ok-check_erase.ensures in
    let spent = c.if-spend.ensures in
    let left = held_erased self.cells _ _ c.erase_first-2.new.self good self.power.dark refl checked.inside c.erase_first-2.ensures in
    let both = done_exactly self.cells c.erase_first-2.new.self self.power.left c.spend.new.self.left good self.power.dark c.spend.new.self.dark (erase c.args.block) self.marked c.if-self.false (checked.why good (sym c.is_good.ensures)) spent.goes spent.left spent.dark left in
    record { answers = both.0; exact = both.1 }
