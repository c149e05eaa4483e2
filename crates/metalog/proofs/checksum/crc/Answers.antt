-- The fold over the bytes is the checksum.
use Rattle.std.proofs.Common.{◌∙◌, rules, tests}
use Rattle.std.proofs.lemmas.Iterator.{YieldsList-from_slice}
use Rattle.std.proofs.lemmas.Iterator.Consumers.{fold_from_yields_List}
use Rattle.metalog.specs.Crc.{crc_byte}
use Rattle.metalog.proofs.Words.{crc_fold}
use Rattle.metalog.proofs.checksum.crc.Goals as goal

pub returns : goal.returns
returns c = fold_from_yields_List _ crc_byte _ _ c.fold.ensures.ran (YieldsList-from_slice c.args.bytes.now cc) (λ a x b q k. search (rules, tests)) ∙ crc_fold c.args.sum c.args.bytes.now
