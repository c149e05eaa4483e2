-- The four sizes of a block, and what it is for a number of bytes to be one of them.
-- Every other definition takes the number of bytes, s; the contracts give it as that of a size.
use Rattle.std.specs.Prelude.{◌≡◌, ℕ, Ok, Err, Result, ◌≢◌}
use Rattle.skiplist.specs.declared.size.BlockSize.{BlockSize}
use Rattle.skiplist.specs.declared.size.BlockSize.TheVariants.{Bytes512, Bytes1024, Bytes2048, Bytes4096}
use Rattle.skiplist.specs.declared.size.WrongSize.{WrongSize}

-- how many bytes a block of a size has
abbrev pub bytes_of : BlockSize → ℕ
bytes_of Bytes512 = 512
bytes_of Bytes1024 = 1024
bytes_of Bytes2048 = 2048
bytes_of Bytes4096 = 4096

-- the size that has n bytes; or an error with n, since no size has n bytes
abbrev pub SizeOf : ℕ → Result BlockSize WrongSize → Type 0
SizeOf n (Ok size) = bytes_of size ≡ n
SizeOf n (Err e) = (e.0 ≡ n) × ((size : BlockSize) → bytes_of size ≢ n)
