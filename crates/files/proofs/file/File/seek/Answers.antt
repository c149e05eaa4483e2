-- One step more, the end of the walk, and that each word on the way can be read. A step is no longer than the way, so that
-- its power of two fits.
use Rattle.std.proofs.Common.{◌≡◌, ◌*◌, ◌%◌, ◌^◌, arith}
use Rattle.files.proofs.Reaches.{reached_more, reached_within}
use Rattle.files.proofs.file.File.seek.Goals as goal

pub returns-in_err-block : goal.returns-in_err-block
returns-in_err-block g c =
    let card = g.D.ReadableDevice.meaning c.args.self.now.device.now in
    let shaped = g.met.D.ReadableDevice.shaped c.args.self.now.device.now in
    λ bs f le. absurd (c.in_err-block.ensures (reached_within card bs c.args.self.now.head c.args.self.now.last c.args.to c.loop-word.from c.loop-word.block c.in-Some.word shaped c.args.self.now.fit f c.in-Some.ensures (c.loop-word.invariant.1 bs f le)))

pub loop-word-preserved : goal.loop-word-preserved
loop-word-preserved g c =
    let card = g.D.ReadableDevice.meaning c.args.self.now.device.now in
    let at = c.in-Some.ensures in
    let within = at.within in
    let step : 1 * 2 ^ c.in-Some.word % 4294967296 ≡ 2 ^ c.in-Some.word = omega arith in (
      omega arith,
      λ bs f le. reached_more card bs c.args.self.now.head c.args.self.now.last c.args.to c.loop-word.from c.loop-word.block c.in-Some.word (1 * 2 ^ c.in-Some.word % 4294967296) c.in_ok-block.block f at step c.in_ok-block.ensures (c.loop-word.invariant.1 bs f le),
    )
