-- Two blocks written one after the other make the root pair of an empty card.
use Rattle.std.proofs.Common.{ap, ◌∙◌}
use Rattle.metalog.specs.Laws.{first_bytes}
use Rattle.cardtool.specs.Empty.{superblock_entry}
use Rattle.cardtool.proofs.Root.{root_put}
use Rattle.cardtool.proofs.maker.write_root.Goals as goal

pub returns : goal.returns
returns g c =
    let made = c.root_content-content.ensures ∙ ap (λ s. first_bytes 1 (superblock_entry s c.block_count.result)) c.block_size.ensures
    ∙ ap (λ n. first_bytes 1 (superblock_entry (g.D.ReadableDevice.meaning c.args.device.now).size n)) c.block_count.ensures in
    root_put _ _ _ _ _ _ _ c.in_ok-write_block.ensures.wrote.1 c.write_block-2.ensures.wrote made
