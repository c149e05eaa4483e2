-- What one step of the reading can be, and that it depends only on the bytes that it reads.
use Rattle.std.proofs.Common.{◌≡◌, ℕ, ◌+◌, ◌-◌, ◌^◌, ◌<◌, ◌≤◌, Bool, true, false, cond, eqb, ltb, leb, List, length, get_or, take, drop, Some, None, Option, sym, refl, ap, ◌∙◌, subst, arith}
use lib.Bits.{bit_xor}
use Rattle.std.proofs.lemmas.List.{get_or-take, drop-take, take-take}
use Rattle.std.proofs.lemmas.Bool.{cond-true, cond-false, ltb-false, leb-false, leb-true}
use Rattle.metalog.specs.Crc.{crc_of}
use Rattle.metalog.specs.Tag.{length_of, ends_commit, next_prior, be32, le32}
use Rattle.metalog.specs.Log.{ended, at, Step, part, seed, tag_at, end_at, past, closes, halt, holding, closing, step_with, step}

-- ---- the three ways of a step

-- behind a tag that ended its commit
abbrev pub closed : ℕ → ℕ → Step
closed i t = record { item = Some (ended (end_at i t)); next = at (past i t) (next_prior t) seed }

pub data View (b : List ℕ) (i prior sum : ℕ) : Type 0 where
  stops : step b (at i prior sum) ≡ halt → View b i prior sum
  holds : (t : ℕ) → tag_at b i prior ≡ Some t → ends_commit t ≡ false → step b (at i prior sum) ≡ holding b i sum t → View b i prior sum
  ends : (t : ℕ) → tag_at b i prior ≡ Some t → ends_commit t ≡ true → closes b i sum t ≡ true → step b (at i prior sum) ≡ closed i t → View b i prior sum

pub step_none : (b : List ℕ) (i prior sum : ℕ) → tag_at b i prior ≡ None → step b (at i prior sum) ≡ halt
unfolding step step_with
step_none b i prior sum e = ap (step_with b i sum) e

pub step_holds : (b : List ℕ) (i prior sum t : ℕ) → tag_at b i prior ≡ Some t → ends_commit t ≡ false → step b (at i prior sum) ≡ holding b i sum t
unfolding step step_with
step_holds b i prior sum t e plain = ap (step_with b i sum) e ∙ cond-false (ends_commit t) (closing b i sum t) (holding b i sum t) plain

pub step_closing : (b : List ℕ) (i prior sum t : ℕ) → tag_at b i prior ≡ Some t → ends_commit t ≡ true → step b (at i prior sum) ≡ closing b i sum t
unfolding step step_with
step_closing b i prior sum t e last = ap (step_with b i sum) e ∙ cond-true (ends_commit t) (closing b i sum t) (holding b i sum t) last

pub step_ends : (b : List ℕ) (i prior sum t : ℕ) → tag_at b i prior ≡ Some t → ends_commit t ≡ true → closes b i sum t ≡ true → step b (at i prior sum) ≡ closed i t
unfolding closing
step_ends b i prior sum t e last right = step_closing b i prior sum t e last ∙ cond-true (closes b i sum t) (closed i t) halt right

pub step_wrong : (b : List ℕ) (i prior sum t : ℕ) → tag_at b i prior ≡ Some t → ends_commit t ≡ true → closes b i sum t ≡ false → step b (at i prior sum) ≡ halt
unfolding closing
step_wrong b i prior sum t e last wrong = step_closing b i prior sum t e last ∙ cond-false (closes b i sum t) (closed i t) halt wrong

pub view : (b : List ℕ) (i prior sum : ℕ) → View b i prior sum
view b i prior sum = go (tag_at b i prior) refl
  where
    shut : (t : ℕ) → tag_at b i prior ≡ Some t → ends_commit t ≡ true → (v : Bool) → closes b i sum t ≡ v → View b i prior sum
    shut t e last true right = ends t e last right (step_ends b i prior sum t e last right)
    shut t e last false wrong = stops (step_wrong b i prior sum t e last wrong)

    by_role : (t : ℕ) → tag_at b i prior ≡ Some t → (v : Bool) → ends_commit t ≡ v → View b i prior sum
    by_role t e true last = shut t e last (closes b i sum t) refl
    by_role t e false plain = holds t e plain (step_holds b i prior sum t e plain)

    go : (o : Option ℕ) → tag_at b i prior ≡ o → View b i prior sum
    go None e = stops (step_none b i prior sum e)
    go (Some t) e = by_role t e (ends_commit t) refl

-- ---- a tag that was found lies in the block

pub record Found (b : List ℕ) (i prior t : ℕ) : Type 0 where
  pub is : bit_xor (be32 b i) prior ≡ t
  pub valid : t < 2 ^ 31
  pub fits : past i t ≤ length b

-- the tests of `tag_at`
abbrev tested : ℕ → Bool → Bool → Bool → Option ℕ
tested w x y z = cond x None (cond y None (cond z None (Some w)))

pub found : (b : List ℕ) (i prior t : ℕ) → tag_at b i prior ≡ Some t → Found b i prior t
unfolding tag_at
found b i prior t e = go (bit_xor (be32 b i) prior) refl (ltb (length b - i) 4) (leb (2 ^ 31) (bit_xor (be32 b i) prior)) (ltb (length b - i - 4) (length_of (bit_xor (be32 b i) prior))) refl refl refl e
  where
    go : (w : ℕ) → bit_xor (be32 b i) prior ≡ w → (x y z : Bool) → ltb (length b - i) 4 ≡ x → leb (2 ^ 31) w ≡ y → ltb (length b - i - 4) (length_of w) ≡ z → tested w x y z ≡ Some t → Found b i prior t
    go w ew true y z hx hy hz h = let bad : ◌≡◌ {A = ℕ} 0 1 = cc in absurd (omega arith)
    go w ew false true z hx hy hz h = let bad : ◌≡◌ {A = ℕ} 0 1 = cc in absurd (omega arith)
    go w ew false false true hx hy hz h = let bad : ◌≡◌ {A = ℕ} 0 1 = cc in absurd (omega arith)
    go w ew false false false hx hy hz h =
        let same : w ≡ t = cc in
        let room : 4 ≤ length b - i = ltb-false (length b - i) 4 hx in
        let low : w < 2 ^ 31 = leb-false (2 ^ 31) w hy in
        let long : length_of w ≤ length b - i - 4 = ltb-false (length b - i - 4) (length_of w) hz in
        record { is = ew ∙ same; valid = subst (λ x. x < 2 ^ 31) same low; fits = subst (λ x. past i x ≤ length b) same (omega arith) }

-- ---- a step depends only on the bytes that it reads

-- two blocks of one length with the same first e bytes
pub record Same (e : ℕ) (b c : List ℕ) : Type 0 where
  pub long : length b ≡ length c
  pub front : take e b ≡ take e c

module _ (e : ℕ) (b c : List ℕ) (s : Same e b c) where
  pub same_byte : (i : ℕ) → i < e → get_or b i 0 ≡ get_or c i 0
  same_byte i h = sym (get_or-take e b i 0 h) ∙ ap (λ xs. get_or xs i 0) s.front ∙ get_or-take e c i 0 h

  pub same_be32 : (i : ℕ) → i + 4 ≤ e → be32 b i ≡ be32 c i
  same_be32 i h =
      let h0 : i < e = omega arith in
      let h1 : i + 1 < e = omega arith in
      let h2 : i + 2 < e = omega arith in
      let h3 : i + 3 < e = omega arith in
      rw (same_byte i h0, same_byte (i + 1) h1, same_byte (i + 2) h2, same_byte (i + 3) h3)

  pub same_le32 : (i : ℕ) → i + 4 ≤ e → le32 b i ≡ le32 c i
  same_le32 i h =
      let h0 : i < e = omega arith in
      let h1 : i + 1 < e = omega arith in
      let h2 : i + 2 < e = omega arith in
      let h3 : i + 3 < e = omega arith in
      rw (same_byte i h0, same_byte (i + 1) h1, same_byte (i + 2) h2, same_byte (i + 3) h3)

  pub same_part : (i n : ℕ) → i + n ≤ e → part b i n ≡ part c i n
  same_part i n h =
      let cut : (xs : List ℕ) → part xs i n ≡ drop i (take (i + n) (take e xs)) = λ xs. sym (drop-take i n xs) ∙ ap (drop i) (sym (take-take (i + n) e xs h)) in
      cut b ∙ ap (λ xs. drop i (take (i + n) xs)) s.front ∙ sym (cut c)

  pub same_tag : (i prior t : ℕ) → past i t ≤ e → tag_at b i prior ≡ Some t → tag_at c i prior ≡ Some t
  unfolding tag_at
  same_tag i prior t h f =
      let word = same_be32 i (omega arith) in
      sym (ap (λ n. tested (bit_xor (be32 b i) prior) (ltb (n - i) 4) (leb (2 ^ 31) (bit_xor (be32 b i) prior)) (ltb (n - i - 4) (length_of (bit_xor (be32 b i) prior)))) s.long
      ∙ ap (λ w. tested (bit_xor w prior) (ltb (length c - i) 4) (leb (2 ^ 31) (bit_xor w prior)) (ltb (length c - i - 4) (length_of (bit_xor w prior)))) word)
      ∙ f

  pub same_closes : (i sum t : ℕ) → past i t ≤ e → closes b i sum t ≡ true → closes c i sum t ≡ true
  unfolding closes
  same_closes i sum t h f = go (leb 4 (length_of t)) refl f
    where
      go : (v : Bool) → leb 4 (length_of t) ≡ v → cond v (eqb (crc_of sum (part b i 4)) (le32 b (i + 4))) false ≡ true → cond v (eqb (crc_of sum (part c i 4)) (le32 c (i + 4))) false ≡ true
      go true l g =
          let four : 4 ≤ length_of t = leb-true 4 (length_of t) l in
          sym (ap (λ xs. eqb (crc_of sum xs) (le32 b (i + 4))) (same_part i 4 (omega arith)) ∙ ap (λ w. eqb (crc_of sum (part c i 4)) w) (same_le32 (i + 4) (omega arith))) ∙ g
      go false l g = g

  pub same_holding : (i sum t : ℕ) → past i t ≤ e → holding b i sum t ≡ holding c i sum t
  same_holding i sum t h = rw (same_part i (4 + length_of t) (omega arith), same_part (i + 4) (length_of t) (omega arith))
