-- One turn of the reader, a tag of a commit or the end of one, and the end of the log.
use Rattle.std.proofs.Common.{◌≡◌, [], length, Some, None, sym, ap, ◌∙◌, subst, arith}
use Rattle.metalog.specs.Log.{Item, step, items, items_of, commits_of, end_from, no_end, end_of}
use Rattle.metalog.specs.Reader.{item_of, end_for, cursor_of}
use Rattle.metalog.proofs.Logs.{room, sums_some, sums_none}
use Rattle.metalog.proofs.Turns.{Gave, after_held, after_ended, at_end}
use Rattle.metalog.proofs.reader.Survey.of.Goals as goal
use Rattle.metalog.proofs.reader.Survey.of.Goals.{In-Some, In-None}

pub loop-item-init : goal.loop-item-init
loop-item-init c =
    let b = c.args.block.now in
    let same = c.into_iter-item-iterator.ensures.into_iter_gives in
    let at_start = ap cursor_of same ∙ c.new-item-items.ensures.cursor in (
      ap (λ r. r.block.now) same ∙ c.new-item-items.ensures.block,
      record {
        fuel = length b;
        begun = [];
        enough = omega arith;
        few = omega arith;
        count = omega (arith, ap (λ k. length (commits_of [] (items (length b) b k))) at_start);
        last = ap (λ k. end_from no_end (items (length b) b k)) at_start;
      },
    )

-- what `next` told of the reader's block holds of the block
gave : (c : In-Some) (x : Item) → item_of c.in-Some.item ≡ x → Gave c.args.block.now (cursor_of c.loop-item.item-iterator) (cursor_of c.next.new.self) c.loop-item.item-iterator.at c.next.new.self.at x
gave c x is =
    let told = c.in-Some.ensures.steps in
    let was = cursor_of c.loop-item.item-iterator in
    let is_now = cursor_of c.next.new.self in
    subst (λ b. Gave b was is_now c.loop-item.item-iterator.at c.next.new.self.at x) c.loop-item.invariant.0
    (record { item = sym (ap Some is) ∙ told.item; next = told.cursor; moves = told.moves })

pub loop-item-preserved-in-Ended : goal.loop-item-preserved-in-Ended
loop-item-preserved-in-Ended c = (
  c.in-Some.ensures.steps.block ∙ c.loop-item.invariant.0,
  after_ended _ _ _ _ _ _ _ c.loop-item.invariant.1 _ (gave (goal.at.loop-item-preserved-in-Ended c).In-Some _ (ap item_of c.in-Ended.is)),
)

pub loop-item-preserved : goal.loop-item-preserved
loop-item-preserved c = (
  c.in-Some.ensures.steps.block ∙ c.loop-item.invariant.0,
  after_held _ _ _ _ _ _ _ c.loop-item.invariant.1 _ (gave (goal.at.loop-item-preserved c).In-Some _ (ap item_of c.in_default.is)),
)

-- all is counted where the reader gives nothing more
counted : (c : In-None) → (c.loop-item.commits ≡ length (commits_of [] (items_of c.args.block.now))) × (end_for c.loop-item.end ≡ end_of c.args.block.now)
counted c =
    let none = subst (λ b. None ≡ (step b (cursor_of c.loop-item.item-iterator)).item) c.loop-item.invariant.0 c.in-None.ensures.steps.item in
    at_end _ _ (cursor_of c.loop-item.item-iterator) _ 0 _ _ c.loop-item.invariant.1 none

pub returns-then-commits-gt0 : goal.returns-then-commits-gt0
returns-then-commits-gt0 c =
    let all = counted (goal.at.returns-then-commits-gt0 c).In-None in
    let sums = sums_some c.args.block.now _ all.0 c.if-commits-gt0.true in
    record { revision = c.revision_word.ensures (room c.args.block.now (omega (arith, all.0, c.if-commits-gt0.true))) ∙ sums.revision_is; commits = sums.commits_is; end = all.1 }

pub returns-else-commits-gt0 : goal.returns-else-commits-gt0
returns-else-commits-gt0 c =
    let all = counted (goal.at.returns-else-commits-gt0 c).In-None in
    let sums = sums_none c.args.block.now _ all.0 c.if-commits-gt0.false in
    record { revision = sums.revision_is; commits = sums.commits_is; end = all.1 }
