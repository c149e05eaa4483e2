-- Points of the format that were computed elsewhere, as one table.
use Rattle.std.specs.Prelude.{◌≡◌, true, [], ◌∷◌, replicate, Some, bit_xor}
use Rattle.metalog.specs.Crc.{crc_of}
use Rattle.metalog.specs.Tag.{be4}
use Rattle.metalog.specs.Log.{tag_at, log_of, empty_log}
use Rattle.metalog.specs.Revision.{newer}

pub record KnownPoints : Type 0 where
  -- the checksum of "123456789"
  pub check : crc_of 0xffffffff (49 ∷ 50 ∷ 51 ∷ 52 ∷ 53 ∷ 54 ∷ 55 ∷ 56 ∷ 57 ∷ []) ≡ 0x340bc6d9
  -- the first tag of a log as it is stored, and the one behind it; and both read back
  pub first : be4 (bit_xor 0x0ff00008 0xffffffff) ≡ 0xf0 ∷ 0x0f ∷ 0xff ∷ 0xf7 ∷ []
  pub second : be4 (bit_xor 0x20100018 0x0ff00008) ≡ 0x2f ∷ 0xe0 ∷ 0x00 ∷ 0x10 ∷ []
  pub first_read : tag_at (0xf0 ∷ 0x0f ∷ 0xff ∷ 0xf7 ∷ replicate 8 0) 0 0xffffffff ≡ Some 0x0ff00008
  pub second_read : tag_at (0x2f ∷ 0xe0 ∷ 0x00 ∷ 0x10 ∷ replicate 24 0) 0 0x0ff00008 ≡ Some 0x20100018
  -- revisions wrap
  pub wraps : newer 0 0xffffffff ≡ true
  -- an erased block
  pub erased : log_of (replicate 512 0xff) ≡ empty_log
