-- One pair more; a pair with a fault; and the last one.
use Rattle.std.proofs.Common.{◌≡◌, ap, arith}
use Rattle.std.proofs.lemmas.Grind.{common_steps}
use Rattle.std.proofs.lemmas.Result.{err_from_is_err_and}
use Rattle.pairlist.specs.Visits.{next_for, hard_for}
use Rattle.pairlist.proofs.Tripping.{trip_start, trip_fit, trip_room, trip_fault, trip_end, trip_more}
use Rattle.pairlist.proofs.walk.follow.Goals as goal

pub loop-visit-init : goal.loop-visit-init
loop-visit-init g c =
    let zero = c.default-global.ensures in
    trip_start _ _ _ _ c.requires (λ j. record { word = zero.0 j; first = zero.1.0 j; second = zero.1.1 j })

pub read_next-requires : goal.read_next-requires
read_next-requires g c = trip_fit _ _ _ _ _ _ _ _ c.loop-visit.invariant

pub returns-in_err-visit : goal.returns-in_err-visit
returns-in_err-visit g c =
    let p = err_from_is_err_and c.from_residual.result c.from_residual.ensures.1 in
    rw (p.1, p.2) (trip_fault _ _ _ _ _ _ _ _ c.loop-visit.invariant _ c.in_err-visit.ensures)

pub push-requires : goal.push-requires
push-requires g c = (omega arith, (trip_room _ _ _ _ _ _ _ _ c.loop-visit.invariant).0)

pub next_dir-dir-requires : goal.next_dir-dir-requires
next_dir-dir-requires g c = (trip_room _ _ _ _ _ _ _ _ c.loop-visit.invariant).1

pub loop-visit-smaller : goal.loop-visit-smaller
loop-visit-smaller g c = omega (arith, (trip_room _ _ _ _ _ _ _ _ c.loop-visit.invariant).0, c.push.ensures.len)

pub returns-in_default : goal.returns-in_default
returns-in_default g c =
    let on : c.is_some_and-hard.result ≡ hard_for c.in_ok-visit.visit.next = grind (arith, common_steps) in
    trip_end _ _ _ _ _ _ _ _ c.loop-visit.invariant c.in_ok-visit.visit _ on c.in_ok-visit.ensures (record { rows = c.push.new.self }) c.bitxor-global.result c.push.ensures.items c.bitxor-global.ensures c.in_default.is

pub loop-visit-preserved : goal.loop-visit-preserved
loop-visit-preserved g c =
    let on : c.is_some_and-hard.result ≡ hard_for c.in_ok-visit.visit.next = grind (arith, common_steps) in
    trip_more _ _ _ _ _ _ _ _ c.loop-visit.invariant c.in_ok-visit.visit _ on c.in_ok-visit.ensures (record { rows = c.push.new.self }) c.bitxor-global.result c.push.ensures.items c.bitxor-global.ensures
    (g.met.D.ReadableDevice.shaped c.args.device.now) _ _ (ap next_for c.in-Some.is) c.mark.ensures.0 _ c.mark.ensures.1.0 c.mark.ensures.1.1 _ c.next_dir-dir.ensures
