-- The cells are the card's image.
use Rattle.parts.specs.Held.{held_image}
use Rattle.parts.proofs.memory.MemoryBoard.bytes.Goals as goal

pub returns : goal.returns
returns c = held_image c.args.self.now.cells _ _ _ c.bytes.ensures
