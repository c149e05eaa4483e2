-- A copy into a part of a slice leaves the rest.
use Rattle.std.proofs.Common.{rules}
use Rattle.std.proofs.lemmas.Slice.{overwrites}
use Rattle.metalog.proofs.Writes.{small}
use Rattle.metalog.proofs.writer.CommitWriter.append.Goals as goal

pub returns-clause-buffer : goal.returns-clause-buffer
returns-clause-buffer c = record { long = search rules; front = search (rules, overwrites); back = search (rules, overwrites) }

pub returns-clause-small : goal.returns-clause-small
returns-clause-small c = small _ (λ i. (c.type_inv.bytes i).fits)
