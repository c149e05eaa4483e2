-- The checksum of a commit, bit by bit: reflected polynomial 0xedb88320, started at 0xffffffff, not inverted at the end.
use Rattle.std.specs.Prelude.{ℕ, zero, suc, ◌*◌, ◌/◌, ◌%◌, List, [], ◌∷◌, bit_xor}

-- one bit leaves at the low end, and brings the polynomial in if it was 1
unfoldable pub step : ℕ → ℕ
step c = bit_xor (c / 2) (c % 2 * 0xedb88320)

unfoldable pub steps : ℕ → ℕ → ℕ
steps zero c = c
steps (suc n) c = steps n (step c)

-- one byte more
unfoldable pub crc_byte : ℕ → ℕ → ℕ
crc_byte c b = steps 8 (bit_xor c b)

-- the checksum of bytes, from the value c on
abbrev pub crc_of : ℕ → List ℕ → ℕ
crc_of c [] = c
crc_of c (b ∷ bs) = crc_of (crc_byte c b) bs
