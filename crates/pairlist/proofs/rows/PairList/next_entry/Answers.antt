-- One pair more of the directory, without an entry of the tree; or one with the next entry; or the last one.
use Rattle.std.proofs.Common.{◌+◌, true, false, sym, ap, ◌∙◌, inl, inr, arith}
use lib.ListN.{length-map}
use Rattle.std.proofs.lemmas.List.{at_drop_all}
use Rattle.std.specs.Iterator.Adapters.{enumerate_count, skip_source, skip_count}
use Rattle.volume.specs.Spots.{spots_from, spots_at}
use Rattle.pairlist.specs.Entries.{hiding_for}
use Rattle.pairlist.specs.Rows.{row_for, rows_in}
use Rattle.pairlist.proofs.Numbering.{row_taken, rows_taken}
use Rattle.pairlist.proofs.Stepping.{entry_here, pair_done}
use Rattle.pairlist.proofs.rows.PairList.next_entry.Goals as goal

pub returns-in-Some-next_id : goal.returns-in-Some-next_id
returns-in-Some-next_id c =
    let h = hiding_for c.args.hidden in
    let rows = rows_in c.args.self.now in
    let i = c.loop-place.invariant in
    let taken = row_taken c.args.self.now.rows.items c.loop-place.place-iterator c.next.new.self (c.in-Some.place, c.in-Some.row) i.0 c.in-Some.ensures.steps in
    let found = c.in-Some-next_id.ensures in
    record {
      row = row_for c.in-Some.row.now;
      there = sym taken.1;
      within = found.within;
      behind = elim i.2 [ inl q ↦ inl (omega (arith, q, taken.0)) | inr q ↦ inr (omega (arith, q.0, taken.0), omega (arith, q.1, found.behind)) ];
      next = sym i.1 ∙ ap (λ k. spots_at h rows k c.loop-place.id) (sym taken.0) ∙ entry_here h rows c.in-Some.place (row_for c.in-Some.row.now) taken.1 c.loop-place.id c.in-Some-next_id.id found;
    }

pub returns-then-not-row : goal.returns-then-not-row
returns-then-not-row c =
    let h = hiding_for c.args.hidden in
    let rows = rows_in c.args.self.now in
    let i = c.loop-place.invariant in
    let taken = row_taken c.args.self.now.rows.items c.loop-place.place-iterator c.next.new.self (c.in-Some.place, c.in-Some.row) i.0 c.in-Some.ensures.steps in
    sym i.1 ∙ ap (λ k. spots_at h rows k c.loop-place.id) (sym taken.0) ∙ pair_done h rows c.in-Some.place (row_for c.in-Some.row.now) taken.1 c.loop-place.id false c.if-not-row.true c.in_default.ensures

pub loop-place-preserved : goal.loop-place-preserved
loop-place-preserved c =
    let h = hiding_for c.args.hidden in
    let rows = rows_in c.args.self.now in
    let i = c.loop-place.invariant in
    let taken = row_taken c.args.self.now.rows.items c.loop-place.place-iterator c.next.new.self (c.in-Some.place, c.in-Some.row) i.0 c.in-Some.ensures.steps in (
      taken.2,
      ap (λ k. spots_at h rows k 0) taken.3 ∙ sym (pair_done h rows c.in-Some.place (row_for c.in-Some.row.now) taken.1 c.loop-place.id true c.if-not-row.false c.in_default.ensures) ∙ ap (λ k. spots_at h rows k c.loop-place.id) taken.0 ∙ i.1,
      inl (elim i.2 [ inl q ↦ omega (arith, q, taken.0, taken.3) | inr q ↦ omega (arith, q.0, taken.0, taken.3) ]),
    )

pub returns : goal.returns
returns c =
    let h = hiding_for c.args.hidden in
    let rows = rows_in c.args.self.now in
    let i = c.loop-place.invariant in
    let k = enumerate_count (skip_source c.loop-place.place-iterator) + skip_count c.loop-place.place-iterator in
    let past = rows_taken c.args.self.now.rows.items c.loop-place.place-iterator c.next.new.self i.0 c.in-None.ensures.steps in
    sym i.1 ∙ at_drop_all (spots_from h k c.loop-place.id) rows k (omega (arith, past, length-map c.args.self.now.rows.items row_for))
