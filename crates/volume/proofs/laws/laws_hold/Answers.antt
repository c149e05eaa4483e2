-- Each law is a lemma of its own.
use Rattle.std.proofs.Common.{refl}
use Rattle.volume.proofs.Computed.{examples}
use Rattle.volume.proofs.Frames.{frame}
use Rattle.volume.proofs.OnePath.{one_path}
use Rattle.volume.proofs.ServesOnce.{serves_once}
use Rattle.volume.proofs.laws.laws_hold.Goals as goal

pub returns : goal.returns
returns c = record { laws = refl; law = record { frame = frame; serves_once = serves_once; one_path = one_path; examples = examples } }
