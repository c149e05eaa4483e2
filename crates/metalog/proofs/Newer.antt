-- The order of revisions.
use Rattle.std.proofs.Common.{rules}
use Rattle.metalog.specs.Revision.{RevisionLaws}

pub revision_laws : RevisionLaws
revision_laws = search rules
