-- There are as many blocks as the cells count.
use Rattle.std.proofs.Common.{rules}
use Rattle.flash.specs.Images.{length_blocks}
use Rattle.parts.proofs.nor.device.NorChipReadableDevice.block_count.Goals as goal

pub returns : goal.returns
returns c = search (rules, length_blocks)
