-- Words and tags of a block, by what is left of the block at their place.
use Rattle.std.proofs.Common.{◌≡◌, ℕ, zero, suc, ◌+◌, ◌-◌, ◌*◌, ◌/◌, ◌%◌, ◌^◌, ◌<◌, ◌≤◌, true, false, cond, ltb, leb, List, [], ◌∷◌, ◌++◌, fold, length, get_or, drop, slice_range, replicate, Some, None, Option, sym, refl, ap, ◌∙◌, ⊎_elim, add-zero, add_assoc, arith, lit<, length-take}
use lib.Bits.{bit_xor, xor_assoc, xor_self, xor_zero_r, xor_lt, xor_shr}
use Rattle.std.specs.Array.{IsFirstChunk}
use Rattle.std.specs.Int.{w32, from_be_bytes, from_le_bytes}
use Rattle.std.specs.List.{AllByRecursion}
use Rattle.std.proofs.lemmas.Nat.{mod-pow-add}
use Rattle.std.proofs.lemmas.List.{get_or-drop, get_or-take, take_all, length-drop, length-replicate}
use Rattle.std.proofs.lemmas.Bool.{le-ltb, lt-leb, lt-ltb, le-leb}
use Rattle.std.proofs.str.Laws.{order}
use Rattle.metalog.specs.Crc.{step, steps, crc_byte, crc_of}
use Rattle.metalog.specs.Tag.{length_of, be32, le32, be4, le4}
use Rattle.metalog.specs.Log.{part, tag_at}

-- ---- the checksum

pub crc_fold : (c : ℕ) (xs : List ℕ) → fold crc_byte c xs ≡ crc_of c xs
crc_fold c [] = refl
crc_fold c (x ∷ xs) = crc_fold (crc_byte c x) xs

pub crc_append : (c : ℕ) (xs ys : List ℕ) → crc_of c (xs ++ ys) ≡ crc_of (crc_of c xs) ys
crc_append c [] ys = refl
crc_append c (x ∷ xs) ys = crc_append (crc_byte c x) xs ys

step_lt : (c : ℕ) → c < 2 ^ 32 → step c < 2 ^ 32
unfolding step
step_lt c h = xor_lt 32 (c / 2) (c % 2 * 0xedb88320) (omega arith) (omega arith)

steps_lt : (n c : ℕ) → c < 2 ^ 32 → steps n c < 2 ^ 32
unfolding steps
steps_lt zero c h = h
steps_lt (suc n) c h = steps_lt n (step c) (step_lt c h)

pub crc_lt : (c : ℕ) (xs : List ℕ) → c < 2 ^ 32 → AllByRecursion (λ x. x < 256) xs → crc_of c xs < 2 ^ 32
unfolding crc_byte
crc_lt c [] h small = h
crc_lt c (x ∷ xs) h small = crc_lt (crc_byte c x) xs (steps_lt 8 (bit_xor c x) (xor_lt 32 c x h (omega (arith, small.0)))) small.1

-- ---- words

pub be32_left : (b : List ℕ) (i : ℕ) → be32 b i ≡ be32 (drop i b) 0
be32_left b i = rw (get_or-drop i b 0 0, get_or-drop i b 1 0, get_or-drop i b 2 0, get_or-drop i b 3 0, add-zero i)

pub le32_left : (b : List ℕ) (i : ℕ) → le32 b (i + 4) ≡ le32 (drop i b) 4
le32_left b i = rw (get_or-drop i b 4 0, get_or-drop i b 5 0, get_or-drop i b 6 0, get_or-drop i b 7 0, add_assoc i 4 1, add_assoc i 4 2, add_assoc i 4 3)

-- the words that the first four bytes of a slice make
module _ (xs ys : List ℕ) (f : IsFirstChunk xs ys 4) where
  same_byte : (k : ℕ) → k < 4 → get_or ys k 0 ≡ get_or xs k 0
  same_byte k h = ap (λ l. get_or l k 0) f.same ∙ get_or-take 4 xs k 0 h

  pub be32_first : from_be_bytes w32 ys ≡ be32 xs 0
  be32_first = rw (same_byte 0 (lit< tt), same_byte 1 (lit< tt), same_byte 2 (lit< tt), same_byte 3 (lit< tt))

  pub le32_first : from_le_bytes w32 ys ≡ le32 xs 0
  le32_first = rw (same_byte 0 (lit< tt), same_byte 1 (lit< tt), same_byte 2 (lit< tt), same_byte 3 (lit< tt))

-- all of a block from a place on
pub rest_is : (b : List ℕ) (i : ℕ) → slice_range b i (length b) ≡ drop i b
rest_is b i = take_all (length b - i) (drop i b) (omega (arith, length-drop i b))

pub part_long : (b : List ℕ) (i n : ℕ) → i + n ≤ length b → length (part b i n) ≡ n
part_long b i n h = simp (length-take, length-drop) (omega arith)

-- the word at the front of a part of a block
pub le32_part : (b : List ℕ) (i n : ℕ) → 4 ≤ n → le32 (part b i n) 0 ≡ le32 b i
le32_part b i n h =
    let h0 : 0 < n = omega arith in
    let h1 : 1 < n = omega arith in
    let h2 : 2 < n = omega arith in
    let h3 : 3 < n = omega arith in
    rw (get_or-take n (drop i b) 0 0 h0, get_or-take n (drop i b) 1 0 h1, get_or-take n (drop i b) 2 0 h2, get_or-take n (drop i b) 3 0 h3, get_or-drop i b 0 0, get_or-drop i b 1 0, get_or-drop i b 2 0, get_or-drop i b 3 0, add-zero i)

lines : (w a b c d : ℕ) (top mid low : ℕ) → w ≡ a * 2 ^ 24 + top → top ≡ b * 2 ^ 16 + mid → mid ≡ c * 2 ^ 8 + d → a * 2 ^ 24 + b * 2 ^ 16 + c * 2 ^ 8 + d ≡ w
lines w a b c d top mid low e f g = omega arith

whole : (w : ℕ) → w < 2 ^ 32 → w % 2 ^ 32 ≡ w
whole w h = omega arith

-- a word is made of its bytes
pub by_bytes : (w : ℕ) → w < 2 ^ 32 → w / 2 ^ 24 % 256 * 2 ^ 24 + w / 2 ^ 16 % 256 * 2 ^ 16 + w / 2 ^ 8 % 256 * 2 ^ 8 + w % 256 ≡ w
by_bytes w h = lines w (w / 2 ^ 24 % 256) (w / 2 ^ 16 % 256) (w / 2 ^ 8 % 256) (w % 256) (w % 2 ^ 24) (w % 2 ^ 16) 0 (sym (whole w h) ∙ mod-pow-add w 8 24) (mod-pow-add w 8 16) (mod-pow-add w 8 8)

pub flip : (a b c d : ℕ) → a + b + c + d ≡ d + c + b + a
flip a b c d = omega arith

pub be32_be4 : (w : ℕ) (xs : List ℕ) → w < 2 ^ 32 → be32 (be4 w ++ xs) 0 ≡ w
be32_be4 w xs h = by_bytes w h

pub le32_le4 : (v w : ℕ) (xs : List ℕ) → w < 2 ^ 32 → le32 (be4 v ++ (le4 w ++ xs)) 4 ≡ w
le32_le4 v w xs h = flip (w % 256) (w / 2 ^ 8 % 256 * 2 ^ 8) (w / 2 ^ 16 % 256 * 2 ^ 16) (w / 2 ^ 24 % 256 * 2 ^ 24) ∙ by_bytes w h

pub twice : (t prior : ℕ) → bit_xor (bit_xor t prior) prior ≡ t
twice t prior = xor_assoc t prior prior ∙ ap (bit_xor t) (xor_self prior) ∙ xor_zero_r t

pub be4_small : (w : ℕ) → AllByRecursion (λ x. x < 256) (be4 w)
be4_small w = (omega arith, (omega arith, (omega arith, (omega arith, tt))))

-- ---- tags

pub pick : (l t : ℕ) → 4 ≤ l → t < 2 ^ 31 → length_of t ≤ l - 4 → ◌≡◌ {A = Option ℕ} (cond (ltb l 4) None (cond (leb (2 ^ 31) t) None (cond (ltb (l - 4) (length_of t)) None (Some t)))) (Some t)
pick l t p q r = rw (le-ltb l 4 p, lt-leb (2 ^ 31) t q, le-ltb (l - 4) (length_of t) r)

pub tag_read : (b : List ℕ) (i prior t : ℕ) (xs : List ℕ) → drop i b ≡ be4 (bit_xor t prior) ++ xs → t < 2 ^ 31 → prior < 2 ^ 32 → length_of t ≤ length xs → tag_at b i prior ≡ Some t
unfolding tag_at
tag_read b i prior t xs e ht hp hl =
    let word : be32 b i ≡ bit_xor t prior = be32_left b i ∙ ap (λ l. be32 l 0) e ∙ be32_be4 (bit_xor t prior) xs (xor_lt 32 t prior (omega arith) hp) in
    let clear : bit_xor (be32 b i) prior ≡ t = ap (λ w. bit_xor w prior) word ∙ twice t prior in
    let left : length b - i ≡ 4 + length xs = omega (arith, length-drop i b, ap length e) in
    rw clear (pick (length b - i) t (omega arith) ht (omega arith))

pub high : (e : ℕ) → e < 2 ^ 31 → 2 ^ 31 ≤ bit_xor 0xffffffff e
high e h =
    let top : bit_xor 0xffffffff e / 2 ^ 31 ≡ bit_xor 1 (e / 2 ^ 31) = xor_shr 0xffffffff e 31 in
    let none : e / 2 ^ 31 ≡ 0 = omega arith in
    let one : bit_xor 1 (e / 2 ^ 31) ≡ 1 = ap (bit_xor 1) none in
    omega arith

pub erased_word : (b : List ℕ) (i k : ℕ) → drop i b ≡ replicate k 0xff → 4 ≤ k → be32 b i ≡ 0xffffffff
erased_word b i zero e h = absurd (omega arith)
erased_word b i (suc zero) e h = absurd (omega arith)
erased_word b i (suc (suc zero)) e h = absurd (omega arith)
erased_word b i (suc (suc (suc zero))) e h = absurd (omega arith)
erased_word b i (suc (suc (suc (suc k)))) e h = be32_left b i ∙ ap (λ l. be32 l 0) e

pub unread : (l t : ℕ) → 2 ^ 31 ≤ t → ◌≡◌ {A = Option ℕ} (cond (ltb l 4) None (cond (leb (2 ^ 31) t) None (cond (ltb (l - 4) (length_of t)) None (Some t)))) None
unread l t h = rw (le-leb (2 ^ 31) t h) (elim (ltb l 4) as (λ v. ◌≡◌ {A = Option ℕ} (cond v None None) None) [ true ↦ refl | false ↦ refl ])

pub unfit : (l t : ℕ) → l - 4 < length_of t → ◌≡◌ {A = Option ℕ} (cond (ltb l 4) None (cond (leb (2 ^ 31) t) None (cond (ltb (l - 4) (length_of t)) None (Some t)))) None
unfit l t h = rw (lt-ltb (l - 4) (length_of t) h) (elim (ltb l 4) as (λ v. ◌≡◌ {A = Option ℕ} (cond v None (cond (leb (2 ^ 31) t) None None)) None) [ true ↦ refl | false ↦ elim (leb (2 ^ 31) t) as (λ v. ◌≡◌ {A = Option ℕ} (cond v None None) None) [ true ↦ refl | false ↦ refl ] ])

pub short : (l t : ℕ) → l < 4 → ◌≡◌ {A = Option ℕ} (cond (ltb l 4) None (cond (leb (2 ^ 31) t) None (cond (ltb (l - 4) (length_of t)) None (Some t)))) None
short l t h = rw (lt-ltb l 4 h)

-- behind a valid tag, erased bytes are no tag
pub erased_tag : (b : List ℕ) (i k prior : ℕ) → drop i b ≡ replicate k 0xff → prior < 2 ^ 31 → tag_at b i prior ≡ None
unfolding tag_at
erased_tag b i k prior e h =
    let left : length b - i ≡ k = sym (length-drop i b) ∙ ap length e ∙ length-replicate k 0xff in
    ⊎_elim
    (λ few. short (length b - i) (bit_xor (be32 b i) prior) (omega arith))
    (λ many. unread (length b - i) (bit_xor (be32 b i) prior) (rw (erased_word b i k e many) (high prior h)))
    (order k 4)
