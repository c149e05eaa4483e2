-- The revision word and the commit behind it are the encoding.
use Rattle.std.proofs.Common.{refl, rules}
use Rattle.metalog.proofs.Parts.{first_concluded, begun_as, finally}
use Rattle.metalog.proofs.writer.write_first.Goals as goal

pub returns : goal.returns
returns c =
    let told = c.first-writer.ensures in
    first_concluded _ _ _ _ _ _ told.buffer (finally _ _ _ _ _ _ _ (begun_as _ _ _ _ _ _ _ _ _ c.put_all-end.ensures.writes refl told.state.0 told.state.1) (search rules))
