-- The ways of reading a pair: too large blocks, a block that cannot be read, and each choice.
use Rattle.std.proofs.Common.{◌≡◌, ◌≤◌, ℕ, List, Ok, Err, Result, sym, ap, ◌∙◌, subst, arith}
use Rattle.std.proofs.lemmas.Grind.{common_steps}
use Rattle.std.proofs.lemmas.Result.{err_from_is_err_and}
use Rattle.volume.specs.State.{start, fold_items}
use Rattle.volume.specs.Pair.{finished_of}
use Rattle.volume.specs.declared.fault.What.{What}
use Rattle.pairs.specs.declared.choice.Side.{Side}
use Rattle.pairs.specs.declared.choice.Side.TheVariants.{First, Second}
use Rattle.pairs.specs.Pairs.{pair_at, Judges}
use Rattle.pairs.proofs.Choosing.{read_on, pair_large, pair_first, pair_second, pair_by, reads_as, reads_fault}
use Rattle.pairs.proofs.pair.PairReader.read.Goals as goal
use Rattle.pairs.proofs.pair.PairReader.read.Goals.{After-choose}

pub returns-then-size-gt-BUFFER : goal.returns-then-size-gt-BUFFER
returns-then-size-gt-BUFFER g c =
    let card = g.D.ReadableDevice.meaning c.args.device.now in
    pair_large card c.args.pair.first c.args.pair.second (omega (arith, c.block_size-size.ensures)) ∙ ap Err (sym c.at.ensures)

pub returns-in_err-first : goal.returns-in_err-first
returns-in_err-first g c =
    let card = g.D.ReadableDevice.meaning c.args.device.now in
    let le : card.size ≤ 4096 = omega (arith, c.block_size-size.ensures) in
    let p = err_from_is_err_and c.from_residual.result c.from_residual.ensures.1 in
    reads_fault card c.args.pair.first c.args.pair.second c.from_residual.result _ c.load.new.self (p.1 ∙ ap Err p.2) (pair_first card c.args.pair.first c.args.pair.second le _ c.in_err-first.ensures)

pub returns-in_err-second : goal.returns-in_err-second
returns-in_err-second g c =
    let card = g.D.ReadableDevice.meaning c.args.device.now in
    let le : card.size ≤ 4096 = omega (arith, c.block_size-size.ensures) in
    let r = c.from_residual-in_err-second.result in
    let p = err_from_is_err_and r c.from_residual-in_err-second.ensures.1 in
    reads_fault card c.args.pair.first c.args.pair.second r _ c.load-2.new.self (p.1 ∙ ap Err p.2) (pair_second card c.args.pair.first c.args.pair.second le _ c.in_ok-first.ensures.readable c.in_err-second.ensures)

-- the pair by what was chosen
by_choice : (g : _) (c : After-choose g) → pair_at (g.D.ReadableDevice.meaning c.args.device.now) c.args.pair.first c.args.pair.second ≡ read_on c.choose.result (g.D.ReadableDevice.meaning c.args.device.now) c.args.pair.first c.args.pair.second
by_choice g c = pair_by (g.D.ReadableDevice.meaning c.args.device.now) c.args.pair.first c.args.pair.second (omega (arith, c.block_size-size.ensures)) _ _ _ _ _ c.in_ok-first.ensures c.in_ok-second.ensures c.choose.ensures

pub returns-in_ok-load-in-First : goal.returns-in_ok-load-in-First
returns-in_ok-load-in-First g c =
    let card = g.D.ReadableDevice.meaning c.args.device.now in
    let a = c.args.pair.first in
    let b = c.args.pair.second in
    let r = c.fold_at.result in
    let s = c.fold_at.new.self in
    let side : c.choose.result ≡ Ok First = grind (arith, common_steps) in
    let is = by_choice g (goal.at.returns-in_ok-load-in-First g c).After-choose ∙ ap (λ (q : Result Side What). read_on q card a b) side in
    let same = c.in_ok-load-in-First.ensures.content in
    reads_as card a b a _ r s is (subst (λ (xs : List ℕ). Judges a b a (fold_items start (finished_of xs)) r s) same (c.fold_at.ensures.judged a b))

pub returns-in-Second : goal.returns-in-Second
returns-in-Second g c =
    let card = g.D.ReadableDevice.meaning c.args.device.now in
    let a = c.args.pair.first in
    let b = c.args.pair.second in
    let r = c.fold_at-in-Second.result in
    let s = c.fold_at-in-Second.new.self in
    let side : c.choose.result ≡ Ok Second = grind (arith, common_steps) in
    let is = by_choice g (goal.at.returns-in-Second g c).After-choose ∙ ap (λ (q : Result Side What). read_on q card a b) side in
    let same = c.in_ok-second.ensures.content in
    reads_as card a b b _ r s is (subst (λ (xs : List ℕ). Judges a b b (fold_items start (finished_of xs)) r s) same (c.fold_at-in-Second.ensures.judged a b))

pub returns-in_err-side : goal.returns-in_err-side
returns-in_err-side g c =
    let card = g.D.ReadableDevice.meaning c.args.device.now in
    let a = c.args.pair.first in
    let b = c.args.pair.second in
    let r = c.from_residual-in_err-side.result in
    let p = err_from_is_err_and r c.from_residual-in_err-side.ensures.1 in
    let is : read_on c.choose.result card a b ≡ Err c.in_err-side.field-0.0 = grind (arith, common_steps) in
    reads_fault card a b r _ c.load-2.new.self (p.1 ∙ ap Err p.2) (by_choice g (goal.at.returns-in_err-side g c).After-choose ∙ is)
