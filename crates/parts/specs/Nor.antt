-- The chip that a NOR chip means. Its card is what the NOR chip means as a device; the count of writes is what its own
-- promises speak of besides.
use Rattle.std.specs.Prelude.{vec_items}
use Rattle.parts.specs.Cells.{card_held}
use Rattle.parts.specs.Chip.{Chip, chip}
use Rattle.parts.specs.declared.nor.NorChip.{NorChip}

-- the blocks in its cells, its marks of good blocks, and its power
abbrev pub state_of : NorChip → Chip
state_of x = chip (card_held x.cells (vec_items x.good) x.power.dark) x.power.left
