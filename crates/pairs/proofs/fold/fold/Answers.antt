-- The loop's first turn, each way of a turn, and the three ends. What `next` tells of the reader's block is carried over to
-- the block.
use Rattle.std.proofs.Common.{◌≡◌, ℕ, ◌<◌, List, [], ◌++◌, Some, None, Err, Result, sym, ap, ◌∙◌, subst, arith}
use Rattle.std.proofs.lemmas.Grind.{common_steps}
use Rattle.std.proofs.lemmas.Result.{err_from_is_err_and}
use Rattle.std.specs.Result.{IfErr}
use Rattle.metalog.specs.Log.{Item, step, items_of}
use Rattle.metalog.specs.Reader.{item_of, entry_of, end_for, cursor_of, Reads}
use Rattle.metalog.specs.declared.reader.Item as code
use Rattle.metalog.specs.declared.reader.LogReader.{LogReader}
use Rattle.metalog.proofs.Turns.{Gave}
use Rattle.volume.specs.State.{start, state, fold_items}
use Rattle.pairs.specs.Tables.{state_of}
use Rattle.pairs.specs.Folds.{Folds}
use Rattle.pairs.proofs.Ends.{ends_in, ends_commits, finished_none}
use Rattle.pairs.proofs.Folding.{Sofar, at_start, stands, tag_inside, after_held, after_ended, at_held_wrong, at_ended_wrong, at_last, at_none, applied_ok, applied_err}
use Rattle.pairs.proofs.fold.fold.Goals as goal
use Rattle.pairs.proofs.fold.fold.Goals.{Joined-item, in-Held+in_ok-map_err-in-Held, in-Ended-2}

gave : {b : List ℕ} {r s : LogReader} {i : code.Item} {x : Item} → r.block.now ≡ b → Reads r (Some i) s → item_of i ≡ x → Gave b (cursor_of r) (cursor_of s) r.at s.at x
gave {r = r} {s = s} {x = x} same told is = subst (λ b. Gave b (cursor_of r) (cursor_of s) r.at s.at x) same (record { item = sym (ap Some is) ∙ told.item; next = told.cursor; moves = told.moves })

pub loop-item-init : goal.loop-item-init
loop-item-init c =
    let empty = c.clear.ensures in
    let same = c.into_iter-item-iterator.ensures.into_iter_gives in
    let cursor = ap cursor_of same ∙ c.new-item-items.ensures.cursor in
    (ap (λ r. r.block.now) same ∙ c.new-item-items.ensures.block, omega arith, at_start c.args.block.now c.into_iter-item-iterator.result c.args.commits c.clear.new.self cursor c.requires.1 empty.entries empty.tail empty.moves)

pub apply-requires : goal.apply-requires
apply-requires c =
    let g = gave c.loop-item.invariant.0 c.in-Some.ensures.steps (ap item_of c.in-Held.is) in
    let room = c.loop-item.invariant.2.room (omega arith) in
    let there = stands c.args.block.now (cursor_of c.loop-item.item-iterator) (entry_of c.in-Held.entry) g.item in
    (omega arith, (there.small, omega (arith, there.inside, c.requires.0)))

-- the error is the offset of the tag
pub returns-in_err-map_err-in-Held-clause-made : goal.returns-in_err-map_err-in-Held-clause-made
returns-in_err-map_err-in-Held-clause-made c =
    let g = gave c.loop-item.invariant.0 c.in-Some.ensures.steps (ap item_of c.in-Held.is) in
    let p = err_from_is_err_and c.from_residual.result c.from_residual.ensures.1 in
    let at : c.in_err-map_err-in-Held.field-0.0 ≡ c.in-Held.entry.offset = grind (arith, common_steps) in
    let refused = applied_err _ _ _ c.apply.result c.in_err-map_err-in-Held.ensures.variant c.apply.ensures.change in
    subst (λ (r : Result (Unit {0}) ℕ). Folds c.args.block.now r c.apply.new.table) (sym (p.1 ∙ ap Err (p.2 ∙ at)))
    (at_held_wrong _ _ _ _ _ _ _ c.requires.0 c.loop-item.invariant.2 _ c.apply.new.table g (omega arith) refused)

pub returns-in_err-map_err-in-Held-clause-inside : goal.returns-in_err-map_err-in-Held-clause-inside
returns-in_err-map_err-in-Held-clause-inside c =
    let g = gave c.loop-item.invariant.0 c.in-Some.ensures.steps (ap item_of c.in-Held.is) in
    let there = stands c.args.block.now (cursor_of c.loop-item.item-iterator) (entry_of c.in-Held.entry) g.item in
    let p = err_from_is_err_and c.from_residual.result c.from_residual.ensures.1 in
    let at : c.in_err-map_err-in-Held.field-0.0 ≡ c.in-Held.entry.offset = grind (arith, common_steps) in
    let below : c.in-Held.entry.offset < 4096 = omega (arith, there.inside, c.requires.0) in
    subst (λ (r : Result (Unit {0}) ℕ). IfErr r (λ at. at < 4096)) (sym (p.1 ∙ ap Err (p.2 ∙ at))) below

pub returns-in-Ended-clause-made : goal.returns-in-Ended-clause-made
returns-in-Ended-clause-made c =
    let g = gave c.loop-item.invariant.0 c.in-Some.ensures.steps (ap item_of c.in-Ended.is) in
    at_ended_wrong _ _ _ _ _ _ _ c.requires.0 c.loop-item.invariant.2 _ g c.if-end-ne-NO_ID.true

pub returns-in-Ended-clause-inside : goal.returns-in-Ended-clause-inside
returns-in-Ended-clause-inside c =
    let g = gave c.loop-item.invariant.0 c.in-Some.ensures.steps (ap item_of c.in-Ended.is) in
    let there = tag_inside c.args.block.now (cursor_of c.loop-item.item-iterator) (end_for c.in-Ended.end) g.item in
    omega (arith, there, c.requires.0)

-- what is left of the log makes the whole after each way of a turn
turned : (c : Joined-item) → Sofar c.args.block.now (cursor_of c.next.new.self) c.next.new.self.at c.match-item.left c.match-item.table
turned c =
    let some : 0 < c.loop-item.left = c.loop-item.invariant.1 in
    let sofar = c.loop-item.invariant.2 in
    elim c.match-item.branch [
      | in-Held+in_ok-map_err-in-Held w ↦
          let g = gave c.loop-item.invariant.0 c.in-Some.ensures.steps (ap item_of w.in-Held.is) in
          let done = applied_ok _ _ _ w.apply.result w.in_ok-map_err-in-Held.ensures.variant w.apply.ensures.change in
          rw (w.table-is, w.left-is) (after_held _ _ _ _ _ _ _ c.requires.0 sofar _ _ g some done w.apply.ensures.few)
      | in-Ended-2 w ↦
          let g = gave c.loop-item.invariant.0 c.in-Some.ensures.steps (ap item_of w.in-Ended.is) in
          rw (w.table-is, w.left-is) (after_ended _ _ _ _ _ _ _ c.requires.0 sofar _ g some w.if-end-ne-NO_ID.false)
    ]

pub loop-item-preserved : goal.loop-item-preserved
loop-item-preserved c = (c.in-Some.ensures.steps.block ∙ c.loop-item.invariant.0, omega arith, turned (goal.at.loop-item-preserved c).Joined-item)

pub returns-in-None-clause-made : goal.returns-in-None-clause-made
returns-in-None-clause-made c =
    let none = subst (λ b. None ≡ (step b (cursor_of c.loop-item.item-iterator)).item) c.loop-item.invariant.0 c.in-None.ensures.steps.item in
    at_none _ _ (cursor_of c.loop-item.item-iterator) _ 0 _ _ c.requires.0 c.loop-item.invariant.2 none

pub returns-then-left-eq0-clause-made : goal.returns-then-left-eq0-clause-made
returns-then-left-eq0-clause-made c = at_last _ _ (cursor_of c.next.new.self) _ 0 _ _ c.requires.0 (turned (goal.at.returns-then-left-eq0-clause-made c).Joined-item) c.if-left-eq0.true

-- a log without a finished commit leaves the table empty
pub returns-then-commits-eq0-clause-made : goal.returns-then-commits-eq0-clause-made
unfolding fold_items
returns-then-commits-eq0-clause-made c = λ rest.
    let empty = c.clear.ensures in
    let log = items_of c.args.block.now in
    let none : ends_in log ≡ 0 = sym (c.requires.1 ∙ ends_commits [] log) ∙ c.if-commits-eq0.true in
    let same : start ≡ state_of (c.args.block.now ++ rest) c.clear.new.self = cc in
    ap (fold_items start) (finished_none log none) ∙ ap state same
