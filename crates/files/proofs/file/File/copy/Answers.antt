-- One part more; and that on a file whose words are right each block is reached and each part can be read.
use Rattle.std.proofs.Common.{◌+◌, ◌-◌, ◌≤◌, length, Some, subst, arith}
use Rattle.skiplist.specs.Places.{Locates}
use Rattle.skiplist.specs.Sizes.{bytes_of}
use Rattle.files.proofs.Copies.{from_block, copied_more, never_refused, copied_all, no_answer, same_answer}
use Rattle.files.proofs.file.File.copy.Goals as goal

pub returns-in_err-block : goal.returns-in_err-block
returns-in_err-block g c =
    let card = g.D.ReadableDevice.meaning c.args.self.now.device.now in
    let shaped = g.met.D.ReadableDevice.shaped c.args.self.now.device.now in
    let at = subst (Locates _ _) {y = Some c.in_ok-location.location} c.in_ok-location.ensures.ok_part c.locate.ensures in
    let inside = at.inside in
    λ bs f fits.
    let here = from_block card bs c.args.self.now.head c.args.self.now.last (bytes_of c.args.self.now.size) (c.args.place + c.loop-done.done) 0 c.in_ok-location.location.block c.in_ok-location.location.byte shaped c.args.self.now.fit c.args.self.now.sized f at.stands (omega arith) (omega arith) in
    absurd (no_answer _ _ (c.in_err-block.ensures bs f here.before))

pub returns-in_err-read_part : goal.returns-in_err-read_part
returns-in_err-read_part g c =
    let card = g.D.ReadableDevice.meaning c.args.self.now.device.now in
    let shaped = g.met.D.ReadableDevice.shaped c.args.self.now.device.now in
    let at = subst (Locates _ _) {y = Some c.in_ok-location.location} c.in_ok-location.ensures.ok_part c.locate.ensures in
    let inside = at.inside in
    let i = c.in_ok-location.location.block in
    let n = c.loop-done.done in
    let e = n + c.min.result in
    let room : e ≤ length c.loop-done.out = omega arith in
    λ bs f fits.
    let here = from_block card bs c.args.self.now.head c.args.self.now.last (bytes_of c.args.self.now.size) (c.args.place + n) (e - n) i c.in_ok-location.location.byte shaped c.args.self.now.fit c.args.self.now.sized f at.stands (omega arith) (omega arith) in
    let is = same_answer _ _ (c.in_ok-block.ensures bs f here.before) in
    absurd (never_refused card bs c.args.self.now.last (c.args.place + n) i c.in_ok-location.location.byte c.in_ok-block.block n e c.loop-done.out room here is c.in_err-read_part.ensures.0)

pub loop-done-preserved : goal.loop-done-preserved
loop-done-preserved g c =
    let card = g.D.ReadableDevice.meaning c.args.self.now.device.now in
    let shaped = g.met.D.ReadableDevice.shaped c.args.self.now.device.now in
    let at = subst (Locates _ _) {y = Some c.in_ok-location.location} c.in_ok-location.ensures.ok_part c.locate.ensures in
    let inside = at.inside in
    let i = c.in_ok-location.location.block in
    let n = c.loop-done.done in
    let e = n + c.min.result in
    let room : e ≤ length c.loop-done.out = omega arith in (
      omega arith,
      λ bs f fits.
          let here = from_block card bs c.args.self.now.head c.args.self.now.last (bytes_of c.args.self.now.size) (c.args.place + n) (e - n) i c.in_ok-location.location.byte shaped c.args.self.now.fit c.args.self.now.sized f at.stands (omega arith) (omega arith) in
          let is = same_answer _ _ (c.in_ok-block.ensures bs f here.before) in
          copied_more card bs c.args.self.now.last c.args.place i c.in_ok-location.location.byte c.in_ok-block.block n e c.loop-done.out c.read_part.new.out (omega arith) room here is c.in_ok-read_part.ensures (c.loop-done.invariant.1 bs f fits),
    )

pub returns : goal.returns
returns g c = λ bs f fits. copied_all (g.D.ReadableDevice.meaning c.args.self.now.device.now) bs c.args.place c.loop-done.done c.args.out.now c.loop-done.out (omega arith) (omega arith) (omega arith) (c.loop-done.invariant.1 bs f fits)
