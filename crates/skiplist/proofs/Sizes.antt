-- Every size has between 512 and 4,096 bytes.
-- The lemmas on places ask no more of a size than the first.
use Rattle.std.proofs.Common.{◌≤◌, arith}
use Rattle.skiplist.specs.Sizes.{bytes_of}
use Rattle.skiplist.specs.declared.size.BlockSize.{BlockSize}
use Rattle.skiplist.specs.declared.size.BlockSize.TheVariants.{Bytes512, Bytes1024, Bytes2048, Bytes4096}

pub bytes_least : (size : BlockSize) → 512 ≤ bytes_of size
bytes_least Bytes512 = omega arith
bytes_least Bytes1024 = omega arith
bytes_least Bytes2048 = omega arith
bytes_least Bytes4096 = omega arith

pub bytes_most : (size : BlockSize) → bytes_of size ≤ 4096
bytes_most Bytes512 = omega arith
bytes_most Bytes1024 = omega arith
bytes_most Bytes2048 = omega arith
bytes_most Bytes4096 = omega arith
