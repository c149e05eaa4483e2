-- A change inside one block of some cells: it stays within their run, keeps the run's length, and replaces that block.
use Rattle.std.proofs.Common.{◌≡◌, ℕ, ◌+◌, ◌*◌, ◌≤◌, List, length, Vec, vec_items, sym, ap, ◌∙◌}
use lib.Seq.{paste}
use Rattle.std.specs.Vec.{with_items}
use Rattle.std.proofs.lemmas.List.{with_items_is}
use Rattle.flash.specs.Image.{blocks_of}
use Rattle.parts.specs.Cells.{IsInside, Rewrites}
use Rattle.parts.specs.declared.cells.Cells.{Cells}
use Rattle.parts.proofs.RunReplaced as run

-- n bytes from an offset of a block on lie within the run
pub part_within : (x : Cells) (b at n : ℕ) → IsInside x.geometry b at n → b * x.geometry.block_size + at + n ≤ length (vec_items x.bytes)
part_within x b at n h = run.part_within x.geometry.block_size x.geometry.block_count b at n (length (vec_items x.bytes)) h.0 h.1 x.whole

-- a run of the same length put back into its Vec is what the Vec then holds, and is as long as before
pub refilled_whole : {Z : Type 0} (v : Vec ℕ Z) (ys : List ℕ) (n : ℕ) → length v.items ≡ n → length ys ≡ length v.items → length (with_items v ys).items ≡ n
refilled_whole v ys n e l = ap length (with_items_is v ys (l ∙ sym v.ok.0)) ∙ l ∙ e

-- a part put into a block replaces that block
pub replaced : (old new : Cells) (ys u : List ℕ) (b at m : ℕ) → new.geometry ≡ old.geometry → new.bytes ≡ with_items old.bytes ys → IsInside old.geometry b at m → m ≤ length u → ys ≡ paste (vec_items old.bytes) (b * old.geometry.block_size + at) u m → Rewrites old b (λ xs. paste xs at u m) new
replaced old new ys u b at m cut refilled h k is =
    let size : ℕ = old.geometry.block_size in
    let count : ℕ = old.geometry.block_count in
    record {
      same_geometry = cut;
      blocks =
          ap (λ g. blocks_of g.block_size g.block_count (vec_items new.bytes)) cut
          ∙ ap (λ v. blocks_of size count (vec_items v)) refilled
          ∙ (run.replaced old.bytes ys u size count b at m old.whole h.0 h.1 k is).blocks;
    }
