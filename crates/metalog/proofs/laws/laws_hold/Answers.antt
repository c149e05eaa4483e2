-- Each law is a lemma of its own.
use Rattle.std.proofs.Common.{refl}
use Rattle.metalog.proofs.Known.{known_points}
use Rattle.metalog.proofs.Newer.{revision_laws}
use Rattle.metalog.proofs.Reading.{first_reads, first_torn, append_reads, append_torn, half_erased}
use Rattle.metalog.proofs.laws.laws_hold.Goals as goal

pub returns : goal.returns
returns c = record {
  laws = refl;
  law = record {
    first_reads = first_reads;
    first_torn = first_torn;
    append_reads = append_reads;
    append_torn = append_torn;
    half_erased = half_erased;
    revisions = revision_laws;
    known = known_points;
  };
}
