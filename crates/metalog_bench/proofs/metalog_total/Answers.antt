-- The reader gives all items of the block, and the closure adds the weight of each.
use Rattle.std.proofs.Common.{◌%◌, ◌^◌, ap, ◌∙◌, zero-add, rules, tests, lit<}
use Rattle.std.proofs.lemmas.Iterator.Consumers.{fold_from_yields_List}
use Rattle.metalog.specs.Log.{items_of}
use Rattle.metalog.proofs.Turns.{yields_all}
use Rattle.metalog_bench.specs.Total.{total_of}
use Rattle.metalog_bench.proofs.Sums.{more, sum_is}
use Rattle.metalog_bench.proofs.metalog_total.Goals as goal

pub returns : goal.returns
returns c =
    fold_from_yields_List _ more 0 _ c.fold.ensures.ran (yields_all c.args.block.now _ c.new.ensures.block c.new.ensures.cursor) (λ a x b q k. search (rules, tests))
    ∙ sum_is 0 (items_of c.args.block.now) (lit< tt)
    ∙ ap (λ n. n % 2 ^ 64) (zero-add (total_of (items_of c.args.block.now)))
