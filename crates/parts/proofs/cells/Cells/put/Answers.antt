-- The part lies within the run, the run keeps its length, and the block is replaced.
use Rattle.std.proofs.Common.{refl, arith}
use Rattle.parts.proofs.Replaced.{replaced}
use Rattle.parts.proofs.cells.Cells.put.Goals as goal

pub returns : goal.returns
returns c = replaced c.args.self.now _ c.put_part.new.bytes c.args.part.now _ _ _ refl refl c.requires (omega arith) (let v = c.deref_mut.ensures.value in let p = c.place-start.ensures in cc)
