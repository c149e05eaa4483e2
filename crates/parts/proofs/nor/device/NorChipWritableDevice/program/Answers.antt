-- A dark chip refuses; a write that passed its checks is torn at half or done.
use Rattle.std.proofs.Common.{take, vec_items, sym, refl, inl}
use Rattle.flash.specs.Write.{program}
use Rattle.flash.proofs.Refusals.{dark_refuses}
use Rattle.parts.specs.Held.{held_programmed}
use Rattle.parts.proofs.Halves.{program_torn, cut_exactly, done_exactly}
use Rattle.parts.proofs.nor.device.NorChipWritableDevice.program.Goals as goal

pub returns-then-self : goal.returns-then-self
returns-then-self c =
    let dark = dark_refuses _ _ c.if-self.true in
    record { answers = inl (dark, refl, record { each = λ _ _. tt }); exact = inl (dark, refl) }

pub returns-then-spend : goal.returns-then-spend
returns-then-spend c =
    let self = c.args.self.now in
    let good = vec_items self.good in
    let checked = c.in_ok-check_program.ensures in
    let spent = c.if-spend.ensures in
    let left = program_torn self.cells _ _ _ (take 8 c.args.unit.now) c.put.new.self good self.power.dark checked.inside.1 refl c.put.ensures in
    let both = cut_exactly self.cells c.put.new.self self.power.left c.spend.new.self.left good self.power.dark c.spend.new.self.dark (program c.args.block c.args.at c.args.unit.now) self.marked c.if-self.false (checked.why good (sym c.is_good.ensures)) spent.goes spent.left spent.dark left in
    record { answers = both.0; exact = both.1 }

pub returns : goal.returns
returns c =
    let self = c.args.self.now in
    let good = vec_items self.good in
    let checked = c.in_ok-check_program.ensures in
    let spent = c.if-spend.ensures in
    let left = held_programmed self.cells _ _ _ c.put-2.new.self good self.power.dark checked.inside.1 c.put-2.ensures in
    let both = done_exactly self.cells c.put-2.new.self self.power.left c.spend.new.self.left good self.power.dark c.spend.new.self.dark (program c.args.block c.args.at c.args.unit.now) self.marked c.if-self.false (checked.why good (sym c.is_good.ensures)) spent.goes spent.left spent.dark left in
    record { answers = both.0; exact = both.1 }
