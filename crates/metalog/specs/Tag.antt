-- The fields of a decoded tag, and words of four bytes.
--
--   bit  31       30 .. 20    19 .. 10    9 .. 0
--        invalid  type        id          length of the data behind the tag
use Rattle.std.specs.Prelude.{ℕ, ◌+◌, ◌*◌, ◌/◌, ◌%◌, ◌^◌, Bool, true, cond, List, [], ◌∷◌, ◌==◌, slice_index}

abbrev pub type_of : ℕ → ℕ
type_of t = t / 2 ^ 20 % 2 ^ 11

abbrev pub id_of : ℕ → ℕ
id_of t = t / 2 ^ 10 % 2 ^ 10

abbrev pub length_of : ℕ → ℕ
length_of t = t % 2 ^ 10

-- a tag of type 0x500 or 0x501 ends a commit
abbrev pub ends_commit : ℕ → Bool
ends_commit t = cond (type_of t == 0x500) true (type_of t == 0x501)

-- what the next tag is stored XORed with: this tag; behind the end of a commit, with the lowest bit of its type for bit 31
abbrev pub next_prior : ℕ → ℕ
next_prior t = cond (ends_commit t) (t % 2 ^ 31 + type_of t % 2 * 2 ^ 31) t

-- the word at a place of a list of bytes, big-endian, as tags are stored, and little-endian, as all else is
abbrev pub be32 : List ℕ → ℕ → ℕ
be32 b i = slice_index b i * 2 ^ 24 + slice_index b (i + 1) * 2 ^ 16 + slice_index b (i + 2) * 2 ^ 8 + slice_index b (i + 3)

abbrev pub le32 : List ℕ → ℕ → ℕ
le32 b i = slice_index b i + slice_index b (i + 1) * 2 ^ 8 + slice_index b (i + 2) * 2 ^ 16 + slice_index b (i + 3) * 2 ^ 24

-- the four bytes of a word
abbrev pub be4 : ℕ → List ℕ
be4 w = w / 2 ^ 24 % 256 ∷ w / 2 ^ 16 % 256 ∷ w / 2 ^ 8 % 256 ∷ w % 256 ∷ []

abbrev pub le4 : ℕ → List ℕ
le4 w = w % 256 ∷ w / 2 ^ 8 % 256 ∷ w / 2 ^ 16 % 256 ∷ w / 2 ^ 24 % 256 ∷ []
