-- A change inside one block of a run of bytes: it stays within the run, keeps the run's length, and replaces that block.
use Rattle.std.proofs.Common.{◌≡◌, ℕ, ◌+◌, ◌*◌, ◌<◌, ◌≤◌, List, length, set, Vec, sym, refl, ap, ◌∙◌, arith}
use lib.Seq.{paste}
use Rattle.std.specs.Vec.{with_items}
use Rattle.std.proofs.lemmas.List.{with_items_is}
use Rattle.std.proofs.lemmas.List.Edits.{length-paste}
use Rattle.flash.specs.Image.{blocks_of}
use Rattle.flash.specs.Images.{block_within, block_lies, blocks_pasted}
use Rattle.parts.specs.Cells.{Replaces}

-- m bytes from an offset of a block on lie within the run
pub part_within : (size count b at m n : ℕ) → b < count → at + m ≤ size → n ≡ count * size → b * size + at + m ≤ n
part_within size count b at m n h w e = omega (arith, block_within size count b h)

-- a part put into a block replaces that block
pub replaced : {Z : Type 0} (v : Vec ℕ Z) (ys u : List ℕ) (size count b at m : ℕ) → length v.items ≡ count * size → b < count → at + m ≤ size → m ≤ length u → ys ≡ paste v.items (b * size + at) u m → Replaces size count v.items b (λ old. paste old at u m) size count (with_items v ys).items
replaced v ys u size count b at m e h w k is =
    let xs : List ℕ = v.items in
    let long : length ys ≡ length xs = ap length is ∙ length-paste xs (b * size + at) u m (omega (arith, part_within size count b at m (length xs) h w e)) k in
    record {
      same_size = refl;
      same_count = refl;
      blocks =
          ap (blocks_of size count) (with_items_is v ys (long ∙ sym v.ok.0) ∙ is)
          ∙ blocks_pasted size count xs b at u m h w (omega arith) k
          ∙ ap (λ old. set (blocks_of size count xs) b (paste old at u m)) (sym (block_lies size count xs b h));
    }
