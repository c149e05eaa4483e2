-- Each part is a lemma on plain histories.
use Rattle.std.proofs.Common.{refl}
use Rattle.flash.proofs.Cuts.{cut_units, cut_block}
use Rattle.flash.proofs.laws.cuts_hold.Goals as goal

pub returns : goal.returns
returns g c = record { units = refl; law = record { units = λ v d b at content s q. cut_units s q; block = λ v d b content q. cut_block q } }
