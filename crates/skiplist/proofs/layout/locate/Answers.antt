-- The byte is what is left of the place behind all that stands before its block.
-- The formula agrees with the layout, so the location is right by both.
use Rattle.std.proofs.Common.{◌≡◌, ◌+◌, ◌-◌, ◌*◌, ◌≤◌, arith}
use lib.Count.{ones}
use Rattle.skiplist.specs.Sizes.{bytes_of}
use Rattle.skiplist.specs.Places.{byte_of}
use Rattle.skiplist.proofs.Sizes.{bytes_least}
use Rattle.skiplist.proofs.Places.{formula_before_le, formula_located}
use Rattle.skiplist.proofs.layout.locate.Goals as goal

before_le : (c : goal.After-content) → c.content.result * c.block_of-block.result + 4 * ones c.block_of-block.result ≤ c.args.place
before_le c =
    formula_before_le (bytes_of c.args.size) c.args.place c.content.result c.block_of-block.result
    (bytes_least c.args.size) (omega arith) c.content.ensures.is c.block_of-block.ensures.is

pub overflow_sub-byte-2 : goal.overflow_sub-byte-2
overflow_sub-byte-2 c = omega (arith, before_le c)

pub returns : goal.returns
returns c =
    let s = bytes_of c.args.size in
    let n = c.block_of-block.result in
    let is_Block = c.block_of-block.ensures.is in
    let is_content = c.content.ensures.is in
    let is_byte : c.args.place - c.content.result * n - 4 * ones n ≡ byte_of s c.args.place = cc in
    formula_located s c.args.place n _ (bytes_least c.args.size) (omega arith) is_Block is_byte
