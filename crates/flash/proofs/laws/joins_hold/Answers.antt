-- Each join is a lemma on plain histories.
use Rattle.std.proofs.Common.{refl}
use Rattle.flash.proofs.Events.{completes_join, crashes_behind}
use Rattle.flash.proofs.Sequences.{runs_behind, finished_completes, interrupted_crashes}
use Rattle.flash.proofs.laws.joins_hold.Goals as goal

pub returns : goal.returns
returns g c = record {
  joins = refl;
  law = record {
    runs = λ ws vs v w d r p q. runs_behind vs r d _ p q;
    finished = λ ws v d p. finished_completes p;
    interrupted = λ ws v d p. interrupted_crashes p;
    completes = λ v w d p q. completes_join p q;
    crashes = λ v w d p q. crashes_behind p q;
  };
}
