-- How the outcomes of requests that follow one another are put together: what was asked in two runs was asked in one,
-- and what was all done, then done or cut, is done or cut as a whole.
use Rattle.std.specs.Prelude.{List, ◌++◌, Result}
use Rattle.flash.specs.Card.{Card}
use Rattle.flash.specs.Write.{Write}
use Rattle.flash.specs.History.{Histories, Completes, Crashes}
use Rattle.flash.specs.Runs.{Finished, Interrupted, Runs}
use Rattle.flash.specs.declared.Refusal.{Refusal}

-- The joins at the histories of a device before, between and after two runs of requests.
pub record Joins (before between after : Histories) : Type 0 where
  -- writes that were all done, and then others with any outcome, are all of them asked one after the other
  pub runs : (ws vs : List Write) (c w d : Card) (r : Result (Unit {0}) Refusal) → Finished ws c w before between → Runs vs w r d between after → Runs (ws ++ vs) c r d before after
  -- writes that were all done are events that were all done
  pub finished : (ws : List Write) (c d : Card) → Finished ws c d before between → Completes c d before between
  -- an interrupted write is a crash
  pub interrupted : (ws : List Write) (c d : Card) → Interrupted ws c d before between → Crashes c d before between
  -- events that were all done, and then others
  pub completes : (c w d : Card) → Completes c w before between → Completes w d between after → Completes c d before after
  -- events that were all done, and then a crash
  pub crashes : (c w d : Card) → Completes c w before between → Crashes w d between after → Crashes c d before after
