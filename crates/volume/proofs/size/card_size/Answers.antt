-- The sizes of a card: one of the four, and from 8 to 4,096 blocks.
use Rattle.std.proofs.Common.{sym, ◌∙◌, arith, rules}
use Rattle.std.proofs.lemmas.Bool.Decides.{nat_tests}
use Rattle.volume.proofs.Retold.{retold_is}
use Rattle.volume.proofs.Sizes.{told_by}
use Rattle.volume.proofs.size.card_size.Goals as goal

pub returns : goal.returns
returns g c =
    told_by _ _ _ c.try_from.result c.map_err.result (sym c.is_dark.ensures ∙ c.if-is_dark.false) c.block_count.ensures c.block_size.ensures (grind (arith, nat_tests)) (grind (arith, nat_tests)) c.try_from.ensures
    (retold_is _ _ c.try_from.result c.map_err.result c.map_err.ensures.cases (λ e w p. search rules))
