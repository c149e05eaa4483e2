-- A name with no fault is short enough to be kept.
use Rattle.reader.proofs.Judging.{no_fault, name_short}
use Rattle.reader.proofs.judge.take_name.Goals as goal

pub keep-requires : goal.keep-requires
keep-requires c = name_short _ _ _ (no_fault _ _ c.in_ok-check.ensures)
