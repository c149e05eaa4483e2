-- Reading what a commit's encoding holds: one piece, all pieces, a whole commit, and the first bytes of one.
use Rattle.std.proofs.Common.{◌≡◌, ℕ, ◌+◌, ◌-◌, ◌*◌, ◌/◌, ◌%◌, ◌^◌, ◌<◌, ◌≤◌, true, false, cond, eqb, leb, List, [], ◌∷◌, ◌++◌, length, take, drop, replicate, Some, sym, refl, ap, ◌∙◌, suc-add, zero-add, arith, length-append}
use lib.Bits.{bit_xor}
use Rattle.std.proofs.lemmas.List.{drop-drop, drop_at, take_at, drop-replicate}
use Rattle.std.proofs.lemmas.Bool.{cond-true, cond-false, le-leb, eq-eqb, ne_eqb}
use Rattle.metalog.specs.Crc.{crc_of}
use Rattle.metalog.specs.Tag.{type_of, id_of, length_of, ends_commit, next_prior, le32, be4, le4}
use Rattle.metalog.specs.Log.{Entry, End, held, ended, at, part, past, seed, tag_at, closes, step}
use Rattle.metalog.specs.Commit.{Piece, Sound, tag_of, ending}
use Rattle.metalog.proofs.Words.{le32_left, le32_le4, tag_read}
use Rattle.metalog.proofs.Views.{step_holds, step_ends}

-- ---- the tag of a piece

abbrev pub read_as : ℕ → Piece → Entry
read_as i p = record { kind = p.kind; id = p.id; offset = i; bytes = p.bytes }

module _ (p : Piece) (s : Sound p) where
  pub tag_valid : tag_of p < 2 ^ 31
  tag_valid = omega (arith, s.kind, s.id, s.long)

  pub tag_type : type_of (tag_of p) ≡ p.kind
  tag_type = omega (arith, s.kind, s.id, s.long)

  pub tag_id : id_of (tag_of p) ≡ p.id
  tag_id = omega (arith, s.kind, s.id, s.long)

  pub tag_length : length_of (tag_of p) ≡ length p.bytes
  tag_length = omega (arith, s.kind, s.id, s.long)

-- a tag that shares the top bits of its type with none that ends a commit
pub top_plain : (t : ℕ) → (type_of t / 16 ≡ 0x50 → ⊥) → ends_commit t ≡ false
top_plain t h =
    cond-false (eqb (type_of t) 0x500) true (eqb (type_of t) 0x501) (ne_eqb (type_of t) 0x500 (λ e. h (omega (arith, e))))
    ∙ ne_eqb (type_of t) 0x501 (λ e. h (omega (arith, e)))

pub tag_plain : (p : Piece) → Sound p → ends_commit (tag_of p) ≡ false
tag_plain p s = top_plain (tag_of p) (λ e. s.plain (ap (λ x. x / 16) (sym (tag_type p s)) ∙ e))

-- ---- what is left of a block behind a front

pub front_is : (b : List ℕ) (i n : ℕ) (xs ys : List ℕ) → drop i b ≡ xs ++ ys → length xs ≡ n → part b i n ≡ xs
front_is b i n xs ys e l = ap (take n) e ∙ take_at xs ys n l

pub left_is : (b : List ℕ) (i n : ℕ) (xs ys : List ℕ) → drop i b ≡ xs ++ ys → length xs ≡ n → drop (i + n) b ≡ ys
left_is b i n xs ys e l = sym (drop-drop n i b) ∙ ap (drop n) e ∙ drop_at xs ys n l

-- erased bytes behind a front, from a place behind that front on
pub erased_past : (b : List ℕ) (i n k : ℕ) (ys : List ℕ) → drop i b ≡ ys ++ replicate k 0xff → length ys ≤ n → drop (i + n) b ≡ replicate (k - (n - length ys)) 0xff
erased_past b i n k ys e h =
    let split : n ≡ length ys + (n - length ys) = omega arith in
    sym (drop-drop n i b) ∙ ap (drop n) e ∙ ap (λ x. drop x (ys ++ replicate k 0xff)) split
    ∙ sym (drop-drop (n - length ys) (length ys) (ys ++ replicate k 0xff)) ∙ ap (drop (n - length ys)) (drop_at ys (replicate k 0xff) (length ys) refl)
    ∙ drop-replicate (n - length ys) k 0xff

pub take_past : (xs ys : List ℕ) (d : ℕ) → take (length xs + d) (xs ++ ys) ≡ xs ++ take d ys
take_past [] ys d = ap (λ n. take n ys) (zero-add d)
take_past (x ∷ xs) ys d = ap (λ n. take n (x ∷ xs ++ ys)) (suc-add (length xs) d) ∙ ap (λ l. x ∷ l) (take_past xs ys d)

-- ---- one piece

pub piece_step : (b : List ℕ) (i prior sum : ℕ) (p : Piece) (xs : List ℕ) → Sound p → prior < 2 ^ 32 → drop i b ≡ be4 (bit_xor (tag_of p) prior) ++ (p.bytes ++ xs)
    → step b (at i prior sum) ≡ record { item = Some (held (read_as i p)); next = at (i + 4 + length p.bytes) (tag_of p) (crc_of sum (be4 (bit_xor (tag_of p) prior) ++ p.bytes)) }
piece_step b i prior sum p xs s hp e =
    let t = tag_of p in
    let bytes = p.bytes in
    let w = bit_xor t prior in
    let long = tag_length p s in
    let tag : tag_at b i prior ≡ Some t = tag_read b i prior t (bytes ++ xs) e (tag_valid p s) hp (omega (arith, long, length-append bytes xs)) in
    let covered : part b i (4 + length_of t) ≡ be4 w ++ bytes = front_is b i (4 + length_of t) (be4 w ++ bytes) xs e (omega (arith, long)) in
    let data_at : part b (i + 4) (length_of t) ≡ bytes = front_is b (i + 4) (length_of t) bytes xs (left_is b i 4 (be4 w) (bytes ++ xs) e refl) (sym long) in
    let place : past i t ≡ i + 4 + length bytes = ap (λ n. i + 4 + n) long in
    let same_prior : next_prior t ≡ t = cond-false (ends_commit t) (t % 2 ^ 31 + type_of t % 2 * 2 ^ 31) t (tag_plain p s) in
    let kind = tag_type p s in
    let id = tag_id p s in
    step_holds b i prior sum t tag (tag_plain p s)
    ∙ (λ k. record { item = Some (held (record { kind = kind k; id = id k; offset = i; bytes = data_at k })); next = at (place k) (same_prior k) (crc_of sum (covered k)) })

-- ---- the end of a commit

pub ending_length : (pad : ℕ) → pad < 16 → length_of (ending pad) ≡ 4 + pad
ending_length pad h = omega arith

ending_type : (pad : ℕ) → pad < 16 → type_of (ending pad) ≡ 0x500
ending_type pad h = omega arith

ending_id : (pad : ℕ) → pad < 16 → id_of (ending pad) ≡ 0x3ff
ending_id pad h = omega arith

pub ending_ends : (pad : ℕ) → pad < 16 → ends_commit (ending pad) ≡ true
ending_ends pad h = ap (λ k. cond (eqb k 0x500) true (eqb k 0x501)) (ending_type pad h)

pub ending_prior : (pad : ℕ) → pad < 16 → next_prior (ending pad) ≡ ending pad
ending_prior pad h = cond-true (ends_commit (ending pad)) (ending pad % 2 ^ 31 + type_of (ending pad) % 2 * 2 ^ 31) (ending pad) (ending_ends pad h) ∙ omega arith

-- the end of a commit whose ending tag is at i
abbrev pub closing_at : ℕ → ℕ → End
closing_at i pad = record { offset = i + 4 + (4 + pad); prior = ending pad; tag = i; id = 0x3ff }

pub close_step : (b : List ℕ) (i prior sum pad word : ℕ) (xs : List ℕ) → pad < 16 → prior < 2 ^ 32 → word < 2 ^ 32 → pad ≤ length xs → word ≡ crc_of sum (be4 (bit_xor (ending pad) prior))
    → drop i b ≡ be4 (bit_xor (ending pad) prior) ++ (le4 word ++ xs)
    → step b (at i prior sum) ≡ record { item = Some (ended (closing_at i pad)); next = at (i + 4 + (4 + pad)) (ending pad) seed }
unfolding closes
close_step b i prior sum pad word xs small hp hw room right e =
    let t = ending pad in
    let w = bit_xor t prior in
    let size = ending_length pad small in
    let tag : tag_at b i prior ≡ Some t = tag_read b i prior t (le4 word ++ xs) e (omega arith) hp (omega (arith, size, length-append (le4 word) xs)) in
    let covered : crc_of sum (part b i 4) ≡ word = ap (crc_of sum) (front_is b i 4 (be4 w) (le4 word ++ xs) e refl) ∙ sym right in
    let stored : le32 b (i + 4) ≡ word = le32_left b i ∙ ap (λ l. le32 l 4) e ∙ le32_le4 w word xs hw in
    let good : closes b i sum t ≡ true = cond-true (leb 4 (length_of t)) (eqb (crc_of sum (part b i 4)) (le32 b (i + 4))) false (le-leb 4 (length_of t) (omega (arith, size))) ∙ eq-eqb (crc_of sum (part b i 4)) (le32 b (i + 4)) (covered ∙ sym stored) in
    let place : past i t ≡ i + 4 + (4 + pad) = ap (λ n. i + 4 + n) size in
    let same_prior = ending_prior pad small in
    let id = ending_id pad small in
    step_ends b i prior sum t tag (ending_ends pad small) good
    ∙ (λ k. record { item = Some (ended (record { offset = place k; prior = same_prior k; tag = i; id = id k })); next = at (place k) (same_prior k) seed })
