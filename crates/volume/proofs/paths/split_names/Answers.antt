-- One part more is a name, or is refused.
use Rattle.std.proofs.Common.{sym, ◌∙◌, arith}
use Rattle.std.proofs.lemmas.List.{length-set}
use Rattle.volume.proofs.Splits.{split_start, too_many, no_name, split_more, split_all}
use Rattle.volume.proofs.paths.split_names.Goals as goal
use Rattle.volume.proofs.paths.split_names.Goals.{then-count-eq-DEPTH_LIMIT-via-then-count-eq-DEPTH_LIMIT, then-count-eq-DEPTH_LIMIT-via-else-count-eq-DEPTH_LIMIT+then-not-is_name}

pub parts-init : goal.parts-init
parts-init c = split_start c.args.path.now c.requires

pub returns-then-count-eq-DEPTH_LIMIT : goal.returns-then-count-eq-DEPTH_LIMIT
returns-then-count-eq-DEPTH_LIMIT c =
    let path = c.args.path.now in
    let l = c.parts in
    let end = c.part_end-end.result in
    elim c.then-count-eq-DEPTH_LIMIT.branch [
      | then-count-eq-DEPTH_LIMIT-via-then-count-eq-DEPTH_LIMIT w ↦ too_many path l.places l.count l.start end l.invariant c.part_end-end.ensures w.if-count-eq-DEPTH_LIMIT.true
      | then-count-eq-DEPTH_LIMIT-via-else-count-eq-DEPTH_LIMIT+then-not-is_name w ↦
          no_name path l.places l.count l.start end l.invariant c.part_end-end.ensures (sym w.is_name.ensures ∙ w.if-not-is_name.true)
    ]

pub returns-then-end-path : goal.returns-then-end-path
returns-then-end-path c =
    let path = c.args.path.now in
    let l = c.parts in
    let end = c.part_end-end.result in
    record {
      few = omega arith;
      room = length-set l.places l.count (record { start = l.start; end = end }) ∙ l.invariant.room;
      are = split_all path l.places l.count l.start end l.invariant c.part_end-end.ensures (omega arith) (sym c.is_name.ensures ∙ c.if-not-is_name.false) c.if-end-path.true;
    }

pub parts-preserved : goal.parts-preserved
parts-preserved c =
    let path = c.args.path.now in
    let l = c.parts in
    let end = c.part_end-end.result in
    split_more path l.places l.count l.start end l.invariant c.part_end-end.ensures (omega arith) (sym c.is_name.ensures ∙ c.if-not-is_name.false) (omega arith)
