-- The reasons why there is no tag, and the tag.
use Rattle.std.proofs.Common.{◌≡◌, ℕ, ◌-◌, List, length, slice_range, ap, ◌∙◌, sym, rules, arith}
use Rattle.std.specs.Array.{IsFirstChunk}
use Rattle.std.specs.Int.{w32, from_be_bytes}
use Rattle.metalog.specs.Tag.{be32}
use Rattle.metalog.specs.Log.{tag_at}
use Rattle.metalog.proofs.Words.{be32_first, be32_left, rest_is, pick, unread, unfit}
use lib.Bits.{bit_xor}
use Rattle.metalog.proofs.reader.Found.at.Goals as goal
use Rattle.metalog.proofs.reader.Found.at.Goals.{then-tag-ge2147483648-via-then-tag-ge2147483648, then-tag-ge2147483648-via-else-tag-ge2147483648+then-left-length}

-- the first four bytes of what is left are the word at the place
word_is : (b left four : List ℕ) (i w : ℕ) → left ≡ slice_range b i (length b) → IsFirstChunk left four 4 → w ≡ from_be_bytes w32 four → w ≡ be32 b i
word_is b left four i w rest first is = is ∙ be32_first left four first ∙ ap (λ l. be32 l 0) (rest ∙ rest_is b i) ∙ sym (be32_left b i)

pub returns-in_err-left-clause-tag : goal.returns-in_err-left-clause-tag
unfolding tag_at
returns-in_err-left-clause-tag c = search rules

pub returns-in_err-first_chunk-clause-tag : goal.returns-in_err-first_chunk-clause-tag
unfolding tag_at
returns-in_err-first_chunk-clause-tag c = search rules

pub returns-then-tag-ge2147483648-clause-tag : goal.returns-then-tag-ge2147483648-clause-tag
unfolding tag_at
returns-then-tag-ge2147483648-clause-tag c =
    let left = c.in_ok-left.ensures.lookup.0 in
    let word = word_is c.args.block.now _ _ c.args.at _ left.2 c.in_ok-first_chunk.ensures.cases c.from_be_bytes.ensures in
    let l = length c.args.block.now - c.args.at in
    let t = bit_xor c.from_be_bytes.result c.args.prior in
    elim c.then-tag-ge2147483648.branch [
      | then-tag-ge2147483648-via-then-tag-ge2147483648 w ↦ rw (← word) (sym (unread l t (omega arith)))
      | then-tag-ge2147483648-via-else-tag-ge2147483648+then-left-length w ↦ rw (← word) (sym (unfit l t (omega arith)))
    ]

pub returns-clause-tag : goal.returns-clause-tag
unfolding tag_at
returns-clause-tag c =
    let left = c.in_ok-left.ensures.lookup.0 in
    let word = word_is c.args.block.now _ _ c.args.at _ left.2 c.in_ok-first_chunk.ensures.cases c.from_be_bytes.ensures in
    rw (← word) (sym (pick _ _ (omega arith) c.if-tag-ge2147483648.false (omega arith)))
