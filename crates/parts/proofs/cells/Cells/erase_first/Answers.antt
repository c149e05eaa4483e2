-- The bytes lie within the run, the run keeps its length, and the block is replaced.
use Rattle.std.proofs.Common.{ℕ, replicate, refl, arith}
use lib.ListN.{length-replicate}
use Rattle.parts.proofs.Replaced.{replaced}
use Rattle.parts.proofs.cells.Cells.erase_first.Goals as goal

pub returns : goal.returns
returns c = replaced c.args.self.now _ c.erase_part.new.bytes (replicate c.args.n 0xff) _ 0 c.args.n refl refl c.requires (omega (arith, length-replicate {A = ℕ} c.args.n 0xff)) (let v = c.deref_mut.ensures.value in let p = c.place-start.ensures in cc)
