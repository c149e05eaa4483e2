-- A whole commit is read as itself, and the first bytes of one, with 0xff behind them, as nothing or as the whole.
use Rattle.std.proofs.Common.{◌≡◌, ℕ, zero, suc, ◌+◌, ◌-◌, ◌*◌, ◌/◌, ◌%◌, ◌^◌, ◌<◌, ◌≤◌, List, [], ◌∷◌, ◌++◌, length, get_or, take, drop, replicate, Some, sym, refl, ap, ◌∙◌, inl, inr, ⊎_elim, append_assoc, arith, length-append}
use lib.Bits.{bit_xor, xor_lt, xor_shr}
use Rattle.std.specs.List.{AllByRecursion}
use Rattle.std.proofs.lemmas.List.{length-take, length-drop, length-replicate}
use Rattle.std.proofs.lemmas.Bool.{cases_lt}
use Rattle.metalog.specs.Crc.{crc_of}
use Rattle.metalog.specs.Tag.{type_of, length_of, ends_commit, be32, be4, le4}
use Rattle.metalog.specs.Log.{at, past, seed, tag_at}
use Rattle.metalog.specs.Commit.{Piece, Sound, tag_of, body, last_of, ending, entries}
use Rattle.metalog.proofs.Words.{crc_append, be32_left, be32_be4, twice}
use Rattle.metalog.proofs.Views.{found}
use Rattle.metalog.proofs.Quiet.{Quiet, Single, AtMost, quiet_held, single_held, single_ended, quiet_behind, LastTag, quiet_plain, last_tag}
use Rattle.metalog.proofs.Pieces.{read_as, tag_valid, tag_type, tag_length, tag_plain, top_plain, left_is, erased_past, take_past, piece_step, ending_length, closing_at, close_step}

-- ---- a whole commit

pub whole : (ps : List Piece) (b : List ℕ) (i prior sum pad word k : ℕ) → AllByRecursion Sound ps → prior < 2 ^ 32 → pad < 16 → word < 2 ^ 32
    → word ≡ crc_of (crc_of sum (body prior ps)) (be4 (bit_xor (ending pad) (last_of prior ps)))
    → drop i b ≡ body prior ps ++ (be4 (bit_xor (ending pad) (last_of prior ps)) ++ (le4 word ++ (replicate pad 0xff ++ replicate k 0xff)))
    → Single b (at i prior sum) i (entries i ps)
unfolding body
whole [] b i prior sum pad word k s hp small hw right e =
    let fill : List ℕ = replicate pad 0xff ++ replicate k 0xff in
    let room : pad ≤ length fill = omega (arith, length-append {A = ℕ} (replicate pad 0xff) (replicate k 0xff), length-replicate {A = ℕ} pad 0xff) in
    let front = be4 (bit_xor (ending pad) prior) ++ (le4 word ++ replicate pad 0xff) in
    let long : length front ≡ 4 + (4 + pad) = omega (arith, length-replicate {A = ℕ} pad 0xff) in
    let left : drop (i + (4 + (4 + pad))) b ≡ replicate k 0xff = left_is b i (4 + (4 + pad)) front (replicate k 0xff) e long in
    let place : i + (4 + (4 + pad)) ≡ i + 4 + (4 + pad) = omega arith in
    let inside : i < length b = omega (arith, length-drop i b, ap length e) in
    single_ended b (at i prior sum) (at (i + 4 + (4 + pad)) (ending pad) seed) i (closing_at i pad) (close_step b i prior sum pad word fill small hp hw room right e) inside
    (quiet_behind b (i + 4 + (4 + pad)) k (ending pad) seed (ap (λ n. drop n b) (sym place) ∙ left) (omega arith))
whole (p ∷ ps) b i prior sum pad word k s hp small hw right e =
    let t = tag_of p in
    let bytes = p.bytes in
    let w = bit_xor t prior in
    let more = body t ps in
    let xs = be4 (bit_xor (ending pad) (last_of t ps)) ++ (le4 word ++ (replicate pad 0xff ++ replicate k 0xff)) in
    let e1 : drop i b ≡ be4 w ++ (bytes ++ (more ++ xs)) = e ∙ ap (λ l. be4 w ++ l) (append_assoc bytes more xs) in
    let j = i + 4 + length bytes in
    let sum1 = crc_of sum (be4 w ++ bytes) in
    let place : i + (4 + length bytes) ≡ j = omega arith in
    let left : drop j b ≡ more ++ xs = ap (λ n. drop n b) (sym place) ∙ left_is b i (4 + length bytes) (be4 w ++ bytes) (more ++ xs) e1 (omega arith) in
    let inside : i < length b = omega (arith, length-drop i b, ap length e1) in
    let right1 : word ≡ crc_of (crc_of sum1 more) (be4 (bit_xor (ending pad) (last_of t ps))) = right ∙ ap (λ c. crc_of c (be4 (bit_xor (ending pad) (last_of t ps)))) (crc_append sum (be4 w ++ bytes) more) in
    single_held b (at i prior sum) (at j t sum1) i j (read_as i p) (entries j ps) (piece_step b i prior sum p (more ++ xs) s.0 hp e1) (omega arith) inside
    (whole ps b j t sum1 pad word k s.1 (omega (arith, tag_valid p s.0)) small hw right1 left)

-- ---- a tag of which only the first bytes are there

erased_small : (k j : ℕ) → get_or (replicate k 0xff) j 0 ≤ 0xff
erased_small zero j = omega arith
erased_small (suc k) zero = omega arith
erased_small (suc k) (suc j) = erased_small k j

top_byte : (a x y z : ℕ) → x ≤ 0xff → y ≤ 0xff → z ≤ 0xff → (a * 2 ^ 24 + x * 2 ^ 16 + y * 2 ^ 8 + z) / 2 ^ 24 ≡ a
top_byte a x y z hx hy hz = omega arith

-- the first byte of a stored tag gives the top bits of what is read there
pub top_kept : (b : List ℕ) (i prior t u : ℕ) → t < 2 ^ 31 → prior < 2 ^ 32 → be32 b i / 2 ^ 24 ≡ bit_xor t prior / 2 ^ 24 % 256 → tag_at b i prior ≡ Some u → type_of u / 16 ≡ type_of t / 16
top_kept b i prior t u ht hp e f =
    let w = bit_xor t prior in
    let small : w < 2 ^ 32 = xor_lt 32 t prior (omega arith) hp in
    let word : be32 b i / 2 ^ 24 ≡ w / 2 ^ 24 = e ∙ omega arith in
    let tops : u / 2 ^ 24 ≡ t / 2 ^ 24 =
    ap (λ x. x / 2 ^ 24) (sym (found b i prior u f).is) ∙ xor_shr (be32 b i) prior 24 ∙ ap (λ x. bit_xor x (prior / 2 ^ 24)) word ∙ sym (xor_shr w prior 24)
    ∙ ap (λ x. x / 2 ^ 24) (twice t prior) in
    omega (arith, tops)

-- all that is there of a tag and its data is a front of bytes, with 0xff behind: no tag but this one is read
pub last_front : (b : List ℕ) (i prior k : ℕ) (ys : List ℕ) → drop i b ≡ ys ++ replicate k 0xff → ((t : ℕ) → tag_at b i prior ≡ Some t → length ys ≤ 4 + length_of t) → LastTag b i prior
last_front b i prior k ys e h = record {
  behind = λ t f. let place : i + (4 + length_of t) ≡ past i t = omega arith in (k - (4 + length_of t - length ys), ap (λ n. drop n b) (sym place) ∙ erased_past b i (4 + length_of t) k ys e (h t f));
}

-- a piece of which one to three bytes are there
cut_piece : (b : List ℕ) (i prior sum k : ℕ) (p : Piece) (ys : List ℕ) → Sound p → prior < 2 ^ 32 → length ys ≤ 4 → drop i b ≡ ys ++ replicate k 0xff
    → be32 (ys ++ replicate k 0xff) 0 / 2 ^ 24 ≡ bit_xor (tag_of p) prior / 2 ^ 24 % 256 → Quiet b (at i prior sum)
cut_piece b i prior sum k p ys s hp few e top =
    quiet_plain b i prior sum (last_front b i prior k ys e (λ t f. omega arith))
    (λ u f. top_plain u (λ h. s.plain (ap (λ x. x / 16) (sym (tag_type p s)) ∙ sym (top_kept b i prior (tag_of p) u (tag_valid p s) hp (ap (λ x. x / 2 ^ 24) (be32_left b i ∙ ap (λ l. be32 l 0) e) ∙ top) f) ∙ h)))

-- what is read where a tag is there whole
pub whole_tag : (b : List ℕ) (i prior t u : ℕ) (ys : List ℕ) → t < 2 ^ 31 → prior < 2 ^ 32 → drop i b ≡ be4 (bit_xor t prior) ++ ys → tag_at b i prior ≡ Some u → u ≡ t
whole_tag b i prior t u ys ht hp e f =
    sym (found b i prior u f).is ∙ ap (λ w. bit_xor w prior) (be32_left b i ∙ ap (λ l. be32 l 0) e ∙ be32_be4 (bit_xor t prior) ys (xor_lt 32 t prior (omega arith) hp)) ∙ twice t prior

-- ---- the first m bytes of a commit

-- a commit's end: the ending tag and what is behind it
torn_end : (b : List ℕ) (i prior sum pad m k : ℕ) (zs : List ℕ) → prior < 2 ^ 32 → pad < 16 → length zs ≡ 4 + pad → (m ≡ 0 → Quiet b (at i prior sum))
    → drop i b ≡ take m (be4 (bit_xor (ending pad) prior) ++ zs) ++ replicate k 0xff → AtMost b (at i prior sum) i []
torn_end b i prior sum pad zero k zs hp small long blank e = inl (blank refl)
torn_end b i prior sum pad (suc zero) k zs hp small long blank e = last_tag b i prior sum (last_front b i prior k (take 1 (be4 (bit_xor (ending pad) prior) ++ zs)) e (λ t f. omega arith))
torn_end b i prior sum pad (suc (suc zero)) k zs hp small long blank e = last_tag b i prior sum (last_front b i prior k (take 2 (be4 (bit_xor (ending pad) prior) ++ zs)) e (λ t f. omega arith))
torn_end b i prior sum pad (suc (suc (suc zero))) k zs hp small long blank e = last_tag b i prior sum (last_front b i prior k (take 3 (be4 (bit_xor (ending pad) prior) ++ zs)) e (λ t f. omega arith))
torn_end b i prior sum pad (suc (suc (suc (suc m)))) k zs hp small long blank e =
    let w = bit_xor (ending pad) prior in
    last_tag b i prior sum
    (last_front b i prior k (be4 w ++ take m zs) e
    (λ t f. let same = ap length_of (whole_tag b i prior (ending pad) t (take m zs ++ replicate k 0xff) (omega arith) hp e f) in omega (arith, same, ending_length pad small, length-take m zs)))

pub torn : (ps : List Piece) (b : List ℕ) (i prior sum pad m k : ℕ) (zs : List ℕ) → AllByRecursion Sound ps → prior < 2 ^ 32 → pad < 16 → length zs ≡ 4 + pad → (m ≡ 0 → Quiet b (at i prior sum))
    → drop i b ≡ take m (body prior ps ++ (be4 (bit_xor (ending pad) (last_of prior ps)) ++ zs)) ++ replicate k 0xff → AtMost b (at i prior sum) i (entries i ps)
unfolding body
torn [] b i prior sum pad m k zs s hp small long blank e = torn_end b i prior sum pad m k zs hp small long blank e
torn (p ∷ ps) b i prior sum pad zero k zs s hp small long blank e = inl (blank refl)
torn (p ∷ ps) b i prior sum pad (suc zero) k zs s hp small long blank e =
    let w = bit_xor (tag_of p) prior in
    let top = top_byte (w / 2 ^ 24 % 256) (get_or (replicate k 0xff) 0 0) (get_or (replicate k 0xff) 1 0) (get_or (replicate k 0xff) 2 0) (erased_small k 0) (erased_small k 1) (erased_small k 2) in
    inl (cut_piece b i prior sum k p (w / 2 ^ 24 % 256 ∷ []) s.0 hp (omega arith) e top)
torn (p ∷ ps) b i prior sum pad (suc (suc zero)) k zs s hp small long blank e =
    let w = bit_xor (tag_of p) prior in
    let top = top_byte (w / 2 ^ 24 % 256) (w / 2 ^ 16 % 256) (get_or (replicate k 0xff) 0 0) (get_or (replicate k 0xff) 1 0) (omega arith) (erased_small k 0) (erased_small k 1) in
    inl (cut_piece b i prior sum k p (w / 2 ^ 24 % 256 ∷ w / 2 ^ 16 % 256 ∷ []) s.0 hp (omega arith) e top)
torn (p ∷ ps) b i prior sum pad (suc (suc (suc zero))) k zs s hp small long blank e =
    let w = bit_xor (tag_of p) prior in
    let top = top_byte (w / 2 ^ 24 % 256) (w / 2 ^ 16 % 256) (w / 2 ^ 8 % 256) (get_or (replicate k 0xff) 0 0) (omega arith) (omega arith) (erased_small k 0) in
    inl (cut_piece b i prior sum k p (w / 2 ^ 24 % 256 ∷ w / 2 ^ 16 % 256 ∷ w / 2 ^ 8 % 256 ∷ []) s.0 hp (omega arith) e top)
torn (p ∷ ps) b i prior sum pad (suc (suc (suc (suc m)))) k zs s hp small long blank e =
    let t = tag_of p in
    let bytes = p.bytes in
    let n = length bytes in
    let w = bit_xor t prior in
    let more = body t ps in
    let end = be4 (bit_xor (ending pad) (last_of t ps)) in
    let xs = more ++ (end ++ zs) in
    let fill : List ℕ = replicate k 0xff in
    let valid = tag_valid p s.0 in
    let e1 : drop i b ≡ be4 w ++ (take m (bytes ++ xs) ++ fill) = e ∙ ap (λ l. be4 w ++ (take m l ++ fill)) (append_assoc bytes more (end ++ zs)) in
    ⊎_elim
    (λ within.
    let ys = be4 w ++ take m (bytes ++ xs) in
    inl (quiet_plain b i prior sum
    (last_front b i prior k ys e1 (λ u f. let same = ap length_of (whole_tag b i prior t u (take m (bytes ++ xs) ++ fill) valid hp e1 f) in omega (arith, same, tag_length p s.0, length-take m (bytes ++ xs))))
    (λ u f. ap ends_commit (whole_tag b i prior t u (take m (bytes ++ xs) ++ fill) valid hp e1 f) ∙ tag_plain p s.0)))
    (λ over.
    let d = m - n in
    let same : m ≡ n + d = omega arith in
    let left = take d xs ++ fill in
    let e2 : drop i b ≡ be4 w ++ (bytes ++ left) = e1 ∙ ap (λ l. be4 w ++ (l ++ fill)) (ap (λ q. take q (bytes ++ xs)) same ∙ take_past bytes xs d) ∙ ap (λ l. be4 w ++ l) (append_assoc bytes (take d xs) fill) in
    let j = i + 4 + n in
    let sum1 = crc_of sum (be4 w ++ bytes) in
    let place : i + (4 + n) ≡ j = omega arith in
    let e3 : drop j b ≡ left = ap (λ q. drop q b) (sym place) ∙ left_is b i (4 + n) (be4 w ++ bytes) left e2 (omega arith) in
    let first = piece_step b i prior sum p left s.0 hp e2 in
    let inside : i < length b = omega (arith, length-drop i b, ap length e2) in
    let calm : d ≡ 0 → Quiet b (at j t sum1) = λ z. quiet_behind b j k t sum1 (e3 ∙ ap (λ q. take q xs ++ fill) z) valid in
    ⊎_elim
    (λ q. inl (quiet_held b (at i prior sum) (at j t sum1) (read_as i p) first q))
    (λ q. inr (single_held b (at i prior sum) (at j t sum1) i j (read_as i p) (entries j ps) first (omega arith) inside q))
    (torn ps b j t sum1 pad d k zs s.1 (omega (arith, valid)) small long calm e3))
    (cases_lt m n)
