-- One entry more, or the one that is refused; and the end.
use Rattle.std.proofs.Common.{refl, ◌∙◌, arith}
use Rattle.std.proofs.lemmas.List.{length-map}
use Rattle.std.proofs.lemmas.Result.{err_from_is_err_and}
use Rattle.metalog.specs.Writer.{piece_of}
use Rattle.metalog.proofs.Parts.{put_none, part_more, part_stuck, put_end, ended, stopped}
use Rattle.metalog.proofs.writer.CommitWriter.put_all.Goals as goal

pub loop-part-init : goal.loop-part-init
loop-part-init c = (refl, put_none _ _ _ _)

pub loop-part-preserved : goal.loop-part-preserved
loop-part-preserved c =
    let told = c.in_ok-put.ensures in
    (told.lender ∙ c.loop-part.invariant.0, part_more _ _ _ c.args.parts.now c.loop-part.part-index _ _ _ c.loop-part.invariant.1 _ (omega arith) (tt {0}) _ _ _ told.writes)

pub returns-in_err-put : goal.returns-in_err-put
returns-in_err-put c =
    let told = c.in_err-put.ensures in
    let p = err_from_is_err_and c.from_residual.result c.from_residual.ensures.1 in
    rw (p.1, p.2) (record {
      lender = told.lender ∙ c.loop-part.invariant.0;
      writes = stopped _ _ _ _ _ _ (part_stuck _ _ _ c.args.parts.now c.loop-part.part-index _ _ _ c.loop-part.invariant.1 _ (omega arith) _ _ _ _ told.writes);
    })

pub returns : goal.returns
returns c = record {
  lender = c.end.ensures.lender ∙ c.loop-part.invariant.0;
  writes = ended _ _ _ _ _ _ _ _ _ (put_end _ _ _ _ c.loop-part.part-index _ _ _ c.loop-part.invariant.1 (omega (arith, length-map c.args.parts.now piece_of))) c.end.ensures.ends;
}
