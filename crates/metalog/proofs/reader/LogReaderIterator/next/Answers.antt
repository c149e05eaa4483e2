-- One answer for each pair of the reader's state and the kind of tag.
use Rattle.std.proofs.Common.{rules}
use Rattle.metalog.specs.Log.{step, step_with}
use Rattle.metalog.proofs.reader.LogReaderIterator.next.Goals as goal

pub returns-in_default-clause-steps : goal.returns-in_default-clause-steps
unfolding step step_with
returns-in_default-clause-steps c = search rules

pub returns-in-Stopped-default-clause-steps : goal.returns-in-Stopped-default-clause-steps
unfolding step step_with
returns-in-Stopped-default-clause-steps c = search rules

pub returns-in-Inside-Holds-clause-steps : goal.returns-in-Inside-Holds-clause-steps
unfolding step step_with
returns-in-Inside-Holds-clause-steps c = search rules

pub returns-in-Inside-Ends-clause-steps : goal.returns-in-Inside-Ends-clause-steps
unfolding step step_with
returns-in-Inside-Ends-clause-steps c = search rules

pub returns-in-Ended-Holds-clause-steps : goal.returns-in-Ended-Holds-clause-steps
unfolding step step_with
returns-in-Ended-Holds-clause-steps c = search rules

pub returns-in-Ended-Ends-clause-steps : goal.returns-in-Ended-Ends-clause-steps
unfolding step step_with
returns-in-Ended-Ends-clause-steps c = search rules
