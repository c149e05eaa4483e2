-- A word that is right, one that is not, and that each word of a good block can be read.
use Rattle.std.proofs.Common.{◌≡◌, ◌+◌, ◌*◌, ◌%◌, ◌^◌, ◌<◌, ◌≤◌, arith}
use Rattle.skiplist.specs.Layout.{pointers_of}
use Rattle.skiplist.proofs.Starts.{header_le}
use Rattle.files.proofs.Cards.{good_within}
use Rattle.files.proofs.Rights.{right_stops}
use Rattle.files.proofs.file.File.check_block.Goals as goal

pub returns-in_err-named : goal.returns-in_err-named
returns-in_err-named g c =
    let shaped = g.met.D.ReadableDevice.shaped c.args.self.now.device.now in
    let end : 4 * c.loop-word.word + 4 ≤ 512 = omega (arith, header_le c.args.index, c.pointers-word-end.ensures.is) in
    λ good. absurd (c.in_err-named.ensures (good_within _ _ (4 * c.loop-word.word + 4) shaped c.args.self.now.fit good end))

pub returns-then-named-blocks : goal.returns-then-named-blocks
returns-then-named-blocks g c =
    let named = c.pointers-word-end.ensures.words.named c.loop-word.word c.loop-word-test.true in
    let step : 1 * 2 ^ c.loop-word.word % 4294967296 ≡ 2 ^ c.loop-word.word = omega arith in
    let less : c.loop-word.word < pointers_of c.args.index = omega (arith, c.pointers-word-end.ensures.is) in
    λ good. right_stops (g.D.ReadableDevice.meaning c.args.self.now.device.now) c.args.blocks.now c.args.index c.loop-word.word _ c.in_ok-named.named step c.in_ok-named.ensures c.if-named-blocks.true less
