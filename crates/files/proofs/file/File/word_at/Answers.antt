-- The bytes that were read make the word.
use Rattle.std.proofs.Common.{◌≡◌, ◌∙◌, rules}
use Rattle.metalog.specs.Tag.{le32}
use Rattle.flash.specs.Card.{bytes}
use Rattle.files.proofs.Cards.{word_of_read}
use Rattle.files.proofs.file.File.word_at.Goals as goal

pub returns : goal.returns
returns g c =
    let word : c.from_le_bytes.result ≡ le32 c.read_part.new.out 0 = search rules in
    word ∙ word_of_read (bytes (g.D.ReadableDevice.meaning c.args.self.now.device.now) c.args.block) _ c.args.at c.in_ok-read_part.ensures
