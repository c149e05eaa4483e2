-- There is no room for a checksum; and it is there, right or wrong.
use Rattle.std.proofs.Common.{◌≡◌, ◌+◌, ◌-◌, ◌<◌, ◌≤◌, take, drop, length, ap, ◌∙◌, arith}
use Rattle.std.proofs.lemmas.Bool.{le-leb, lt-leb}
use Rattle.metalog.specs.Crc.{crc_of}
use Rattle.metalog.specs.Tag.{length_of, le32}
use Rattle.metalog.specs.Log.{part, closes}
use Rattle.metalog.proofs.Words.{part_long, le32_first, le32_part}
use Rattle.metalog.proofs.reader.Found.closes.Goals as goal

pub returns-in_default : goal.returns-in_default
unfolding closes
returns-in_default c =
    let n = length_of c.args.self.tag.word in
    let few : n < 4 = omega (arith, c.in_default.ensures.cases, ap length c.data.ensures, part_long c.args.self.block.now (c.args.self.at + 4) n (omega arith)) in
    rw (lt-leb 4 n few)

pub returns : goal.returns
unfolding closes
returns c =
    let b = c.args.self.block.now in
    let i = c.args.self.at in
    let n = length_of c.args.self.tag.word in
    let told = c.in-Some.ensures.cases in
    let enough : 4 ≤ n = omega (arith, told.enough, ap length c.data.ensures, part_long b (i + 4) n (omega arith)) in
    let right : c.from_le_bytes.result ≡ le32 b (i + 4) = c.from_le_bytes.ensures ∙ le32_first _ _ told ∙ ap (λ l. le32 l 0) c.data.ensures ∙ le32_part b (i + 4) n enough in
    let four : i + 4 - i ≡ 4 = omega arith in
    let is : c.crc.result ≡ crc_of c.args.sum (part b i 4) = c.crc.ensures ∙ ap (λ k. crc_of c.args.sum (take k (drop i b))) four in
    rw (is, right, le-leb 4 n enough)
