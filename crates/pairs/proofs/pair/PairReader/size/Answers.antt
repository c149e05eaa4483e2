-- One entry more.
use Rattle.std.proofs.Common.{◌≡◌, ◌+◌, ◌<◌, length, get_or, sym, ap, ◌∙◌, arith}
use Rattle.pairs.specs.Sizes.{entry_size}
use Rattle.pairs.specs.Slots.{none}
use Rattle.pairs.proofs.Kept.{size_more}
use Rattle.pairs.proofs.pair.PairReader.size.Goals as goal

pub loop-id-preserved : goal.loop-id-preserved
loop-id-preserved c =
    let b = c.args.self.now.block in
    let es = c.args.self.now.table.entries.items in
    let i = c.loop-id.id in
    let n = c.entry_size-total.result in
    let there : i < length es = omega arith in
    let long : length b ≡ 4096 = omega arith in
    (ap (λ k. k + n) c.loop-id.invariant.0 ∙ sym (size_more b long es i n there (c.entry_size-total.ensures.size ∙ ap (λ xs. entry_size (get_or xs i none)) c.deref.ensures.0)), omega (arith, c.entry_size-total.ensures.small))
