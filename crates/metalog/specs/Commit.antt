-- How a commit is written: its tags, each XORed with the one before, the ending tag 0x500, the checksum, and 0xff up to a multiple of 16.
use Rattle.std.specs.Prelude.{◌≡◌, ℕ, ◌+◌, ◌-◌, ◌*◌, ◌/◌, ◌%◌, ◌^◌, ◌<◌, List, [], ◌∷◌, ◌++◌, length, replicate, bit_xor}
use Rattle.std.specs.List.{AllByRecursion}
use Rattle.metalog.specs.Crc.{crc_of}
use Rattle.metalog.specs.Tag.{be4, le4}
use Rattle.metalog.specs.Log.{Entry, seed}

-- an entry to be written
pub record Piece : Type 0 where
  pub kind : ℕ
  pub id : ℕ
  pub bytes : List ℕ

-- what can be written: each field fits, and the type is not among 0x500 to 0x50f, which a torn ending tag could be taken for
pub record Sound (p : Piece) : Type 0 where
  pub kind : p.kind < 2 ^ 11
  pub plain : p.kind / 16 ≡ 0x50 → ⊥
  pub id : p.id < 2 ^ 10
  pub long : length p.bytes < 2 ^ 10
  pub small : AllByRecursion (λ x. x < 256) p.bytes

abbrev pub tag_of : Piece → ℕ
tag_of p = p.kind * 2 ^ 20 + p.id * 2 ^ 10 + length p.bytes

-- the stored bytes of the tags and their data, the first tag XORed with `prior`
unfoldable pub body : ℕ → List Piece → List ℕ
body prior [] = []
body prior (p ∷ ps) = be4 (bit_xor (tag_of p) prior) ++ (p.bytes ++ body (tag_of p) ps)

-- the last tag, or `prior` where there is none
abbrev pub last_of : ℕ → List Piece → ℕ
last_of prior [] = prior
last_of prior (p ∷ ps) = last_of (tag_of p) ps

-- the tag that ends a commit, with `pad` bytes of padding behind the checksum
abbrev pub ending : ℕ → ℕ
ending pad = 0x500 * 2 ^ 20 + 0x3ff * 2 ^ 10 + (4 + pad)

-- how much padding a commit takes whose tags and data end at n
abbrev pub pad_of : ℕ → ℕ
pad_of n = (16 - (n + 8) % 16) % 16

-- the ending tag, the checksum and the padding, behind `front`, the commit's bytes up to there
abbrev pub end_with : ℕ → List ℕ → ℕ → List ℕ
end_with pad front prior = be4 (bit_xor (ending pad) prior) ++ (le4 (crc_of seed (front ++ be4 (bit_xor (ending pad) prior))) ++ replicate pad 0xff)

unfoldable pub end_bytes : List ℕ → ℕ → List ℕ
end_bytes front prior = end_with (pad_of (length front)) front prior

-- A commit's bytes. `front` is what its checksum covers before its first tag: the revision word in the first commit of a
-- block, nothing in the others; so the commit and its front begin at a multiple of 16.
unfoldable pub encode : List ℕ → ℕ → List Piece → List ℕ
encode front prior ps = body prior ps ++ end_bytes (front ++ body prior ps) (last_of prior ps)

-- what is read of pieces that are stored from the offset i on
abbrev pub entries : ℕ → List Piece → List Entry
entries i [] = []
entries i (p ∷ ps) = record { kind = p.kind; id = p.id; offset = i; bytes = p.bytes } ∷ entries (i + 4 + length p.bytes) ps
