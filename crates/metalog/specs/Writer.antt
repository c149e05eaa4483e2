-- What the commit writer does to its buffer.
use Rattle.std.specs.Prelude.{◌≡◌, ℕ, ◌+◌, ◌*◌, ◌/◌, ◌^◌, Bool, cond, not, ◌&&◌, List, [], ◌∷◌, ◌++◌, length, take, drop, Some, None, Ok, Err, Option, Result, ◌==◌, bit_xor, nat_le, nat_lt}
use Rattle.std.specs.List.{AllByRecursion}
use Rattle.metalog.specs.declared.writer.Part.{Part}
use Rattle.metalog.specs.declared.writer.Unwritable.{Unwritable}
use Rattle.metalog.specs.declared.writer.Unwritable.TheVariants.{BadTag, NoRoom}
use Rattle.metalog.specs.Tag.{be4, le4}
use Rattle.metalog.specs.Laws.{first_bytes}
use Rattle.metalog.specs.Commit.{Piece, Sound, tag_of, pad_of, end_bytes, encode}

-- c is b with xs written at i
pub record Put (b c : List ℕ) (i : ℕ) (xs : List ℕ) : Type 0 where
  pub long : length c ≡ length b
  pub front : take (i + length xs) c ≡ take i b ++ xs
  pub back : drop (i + length xs) c ≡ drop (i + length xs) b

-- a buffer b in which a block's first commit is begun: its revision word is there, if the buffer has room for it
abbrev pub Begun : List ℕ → ℕ → List ℕ → Type 0
Begun b revision c = cond (nat_le 4 (length b)) (Put b c 0 (le4 revision)) (c ≡ b)

-- whether an entry's fields fit into a tag that no torn ending tag is taken for
abbrev pub is_sound : ℕ → ℕ → ℕ → Bool
is_sound kind id n = nat_lt kind (2 ^ 11) && (not (kind / 16 == 0x50) && (nat_lt id (2 ^ 10) && nat_lt n (2 ^ 10)))

-- the tag of an entry with n bytes of data, if it can be written
abbrev pub tag_for : ℕ → ℕ → ℕ → Option ℕ
tag_for kind id n = cond (is_sound kind id n) (Some (kind * 2 ^ 20 + id * 2 ^ 10 + n)) None

-- why an entry with n bytes of data is refused by a writer that has used so much of so long a buffer
unfoldable pub put_refusal : ℕ → ℕ → ℕ → ℕ → ℕ → Option Unwritable
put_refusal used long kind id n = cond (is_sound kind id n) (cond (nat_le (used + (4 + n)) long) None (Some NoRoom)) (Some BadTag)

-- why the end of a commit is refused: its tag, checksum and padding do not fit
unfoldable pub end_refusal : ℕ → ℕ → Option Unwritable
end_refusal used long = cond (nat_le (used + (8 + pad_of used)) long) None (Some NoRoom)

abbrev pub piece : ℕ → ℕ → List ℕ → Piece
piece kind id bytes = record { kind = kind; id = id; bytes = bytes }

-- The entry p more: the buffer b, of which `used` bytes are written, the last tag `prior`, and afterwards c, `used'` and `prior'`. A refused one changes nothing.
abbrev pub Puts : {T : Type 0} → List ℕ → ℕ → ℕ → Piece → Result T Unwritable → List ℕ → ℕ → ℕ → Type 0
Puts b used prior p (Ok _) c used' prior' =
    (put_refusal used (length b) p.kind p.id (length p.bytes) ≡ None) × Sound p
    × Put b c used (be4 (bit_xor (tag_of p) prior) ++ p.bytes)
    × (used' ≡ used + (4 + length p.bytes)) × (prior' ≡ tag_of p)
Puts b used prior p (Err e) c used' prior' =
    (put_refusal used (length b) p.kind p.id (length p.bytes) ≡ Some e) × (c ≡ b) × (used' ≡ used) × (prior' ≡ prior)

-- The end of a commit, and where it is. A refused one changes nothing.
abbrev pub Ends : List ℕ → ℕ → ℕ → Result ℕ Unwritable → List ℕ → Type 0
Ends b used prior (Ok end) c =
    (end_refusal used (length b) ≡ None) × Put b c used (end_bytes (take used b) prior) × (end ≡ used + (8 + pad_of used))
Ends b used prior (Err e) c = (end_refusal used (length b) ≡ Some e) × (c ≡ b)

-- ---- a whole commit

abbrev pub piece_of : Part → Piece
piece_of p = piece p.kind p.id p.bytes.now

abbrev pub or_else : Option Unwritable → Option Unwritable → Option Unwritable
or_else None o = o
or_else (Some e) o = Some e

-- the first reason against a commit of the entries ps, in a buffer of which so much is used
abbrev pub write_refusal : ℕ → ℕ → List Piece → Option Unwritable
write_refusal used long [] = end_refusal used long
write_refusal used long (p ∷ ps) = or_else (put_refusal used long p.kind p.id (length p.bytes)) (write_refusal (used + (4 + length p.bytes)) long ps)

-- no more was written at i than some first bytes of xs
pub record Partly (b c : List ℕ) (i : ℕ) (xs : List ℕ) : Type 0 where
  pub many : ℕ
  pub put : Put b c i (take many xs)

-- A commit of the entries ps behind what is used of the buffer b: the answer is its end. Where it is refused, no more than some first bytes of it are written.
abbrev pub Writes : List ℕ → ℕ → ℕ → List Piece → Result ℕ Unwritable → List ℕ → Type 0
Writes b used prior ps (Ok end) c =
    (write_refusal used (length b) ps ≡ None) × AllByRecursion Sound ps × Put b c used (encode (take used b) prior ps) × (end ≡ used + length (encode (take used b) prior ps))
Writes b used prior ps (Err e) c = (write_refusal used (length b) ps ≡ Some e) × Partly b c used (encode (take used b) prior ps)

-- The revision word and the first commit of a block, in the same way.
abbrev pub WritesFirst : List ℕ → ℕ → List Piece → Result ℕ Unwritable → List ℕ → Type 0
WritesFirst b revision ps (Ok end) c =
    (write_refusal 4 (length b) ps ≡ None) × AllByRecursion Sound ps × Put b c 0 (first_bytes revision ps) × (end ≡ length (first_bytes revision ps))
WritesFirst b revision ps (Err e) c = (write_refusal 4 (length b) ps ≡ Some e) × Partly b c 0 (first_bytes revision ps)
