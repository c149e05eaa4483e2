-- The commit writer, given a buffer of just its length, fills it with the root block's first bytes.
use Rattle.std.proofs.Common.{[], ◌∷◌, replicate, subst}
use Rattle.metalog.specs.Writer.{piece, WritesFirst}
use Rattle.cardtool.proofs.Root.{root_written}
use Rattle.cardtool.proofs.maker.root_content.Goals as goal

pub returns : goal.returns
returns c =
    root_written c.args.size c.args.count c.write_first.result c.write_first.new.buffer
    (subst (λ words. WritesFirst (replicate 64 0xff) 1 (piece 0x0ff 0 (108 ∷ 105 ∷ 116 ∷ 116 ∷ 108 ∷ 101 ∷ 102 ∷ 115 ∷ []) ∷ piece 0x201 0 words ∷ []) c.write_first.result c.write_first.new.buffer) c.superblock-words.ensures
    c.write_first.ensures)
