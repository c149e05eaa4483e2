-- There are as many blocks on the card as the bytes have.
use Rattle.std.proofs.Common.{sym, ◌∙◌}
use Rattle.flash.specs.Images.{length_blocks}
use Rattle.flash.proofs.image.CardImageReadableDevice.block_count.Goals as goal

pub returns : goal.returns
returns g c = c.args.self.now.fits ∙ sym (length_blocks _ _ _)
