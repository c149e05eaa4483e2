-- The walk through the blocks of a file: a word of a block leads to the block that it should.
use Rattle.std.proofs.Common.{◌≡◌, ℕ, ◌+◌, ◌-◌, ◌*◌, ◌^◌, ◌<◌, ◌≤◌, List, length, get_or, sym, ap, ◌∙◌, arith}
use Rattle.flash.specs.Card.{Card, Shaped, bytes}
use Rattle.metalog.specs.Tag.{le32}
use Rattle.skiplist.specs.Strides.{Stride}
use Rattle.skiplist.specs.Layout.{pointers_of}
use Rattle.skiplist.proofs.Starts.{header_le}
use Rattle.volume.specs.Thread.{usable}
use Rattle.volume.specs.Sizes.{Fit}
use Rattle.files.specs.Steps.{Within, FileAt}
use Rattle.files.proofs.Cards.{good_within}
use Rattle.files.proofs.Rights.{right_word, all_right_lem}

-- on the way from the last block to the block `to`, the walk is at block `from`
pub record Reached (bs : List ℕ) (last to from block : ℕ) : Type 0 where
  pub within : from ≤ last
  pub before : to ≤ from
  pub there : get_or bs from 0 ≡ block

-- one step more
pub reached_more : (c : Card) (bs : List ℕ) (head last to from block k step next : ℕ) → FileAt c bs head last → Stride from to k → step ≡ 2 ^ k → next ≡ le32 (bytes c block) (4 * k) → Reached bs last to from block → Reached bs last to (from - step) next
reached_more c bs head last to from block k step next f at is read r =
    let here : from < length bs = omega (arith, f.many, r.within) in
    let words = all_right_lem c bs (length bs) from f.right here in
    let leads = right_word c bs from (pointers_of from) k words at.word in
    record {
      within = omega (arith, r.within);
      before = omega (arith, at.reaches);
      there = ap (λ (x : ℕ). get_or bs (from - x) 0) is ∙ sym leads ∙ ap (λ (b : ℕ). le32 (bytes c b) (4 * k)) r.there ∙ sym read;
    }

-- the word can be read
pub reached_within : (c : Card) (bs : List ℕ) (head last to from block k : ℕ) → Shaped c → Fit c → FileAt c bs head last → Stride from to k → Reached bs last to from block → Within c block (4 * k + 4)
reached_within c bs head last to from block k shaped fit f at r =
    let good = f.good from (omega (arith, f.many, r.within)) in
    good_within c block (4 * k + 4) shaped fit (sym (ap (usable c) r.there) ∙ good) (omega (arith, header_le from, at.word))
