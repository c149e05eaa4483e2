-- What the tests of the commit writer decide, and what its writes come to.
use Rattle.std.proofs.Common.{◌≡◌, ℕ, suc, ◌+◌, ◌-◌, ◌*◌, ◌/◌, ◌%◌, ◌^◌, ◌<◌, Bool, true, false, cond, not, ◌&&◌, eqb, ltb, leb, List, [], ◌∷◌, ◌++◌, length, get_or, take, replicate, Some, None, Option, Ok, Err, Result, sym, refl, ap, ◌∙◌, subst, arith}
use lib.Bits.{bit_xor}
use Rattle.std.specs.List.{AllByRecursion}
use Rattle.std.specs.Option.{ok_or}
use Rattle.std.proofs.lemmas.Bool.{cond-true, cond-false, and_parts, ltb-true, eqb-false, not-true}
use Rattle.metalog.specs.declared.writer.Unwritable.{Unwritable}
use Rattle.metalog.specs.declared.writer.Unwritable.TheVariants.{BadTag, NoRoom}
use Rattle.metalog.specs.Crc.{crc_of}
use Rattle.metalog.specs.Tag.{be4, le4}
use Rattle.metalog.specs.Log.{seed}
use Rattle.metalog.specs.Commit.{Sound, ending, pad_of, end_with, end_bytes}
use Rattle.metalog.specs.Writer.{Put, is_sound, tag_for, piece, put_refusal, end_refusal}
use Rattle.metalog.proofs.Puts.{then}

-- the tag that was made, or the reason why there is none
pub made : (o : Option ℕ) (e : Unwritable) (t : ℕ) → Ok t ≡ ok_or o e → Some t ≡ o
made None e t h = cc
made (Some x) e t h = cc

pub not_made : (o : Option ℕ) (e r : Unwritable) → ◌≡◌ {A = Result ℕ Unwritable} (Err r) (ok_or o e) → (None ≡ o) × (r ≡ e)
not_made None e r h = (refl, cc)
not_made (Some x) e r h = let bad : ◌≡◌ {A = ℕ} 0 1 = cc in absurd (omega arith)

module _ (used long kind id n : ℕ) where
  pub bad_tag : None ≡ tag_for kind id n → put_refusal used long kind id n ≡ Some BadTag
  unfolding put_refusal
  bad_tag e = go (is_sound kind id n) e
    where
      go : (v : Bool) → ◌≡◌ {A = Option ℕ} None (cond v (Some (kind * 2 ^ 20 + id * 2 ^ 10 + n)) None) → ◌≡◌ {A = Option Unwritable} (cond v (cond (leb (used + (4 + n)) long) None (Some NoRoom)) (Some BadTag)) (Some BadTag)
      go true h = let bad : ◌≡◌ {A = ℕ} 0 1 = cc in absurd (omega arith)
      go false h = refl

  -- a tag was made: so it is the entry's, and only room is wanting
  pub good_tag : (t : ℕ) → Some t ≡ tag_for kind id n → (is_sound kind id n ≡ true) × (t ≡ kind * 2 ^ 20 + id * 2 ^ 10 + n)
  good_tag t e = go (is_sound kind id n) e
    where
      go : (v : Bool) → Some t ≡ cond v (Some (kind * 2 ^ 20 + id * 2 ^ 10 + n)) None → (v ≡ true) × (t ≡ kind * 2 ^ 20 + id * 2 ^ 10 + n)
      go true h = (refl, cc)
      go false h = let bad : ◌≡◌ {A = ℕ} 0 1 = cc in absurd (omega arith)

  pub no_room : (t : ℕ) → Some t ≡ tag_for kind id n → leb (used + (4 + n)) long ≡ false → put_refusal used long kind id n ≡ Some NoRoom
  unfolding put_refusal
  no_room t e f =
      cond-true (is_sound kind id n) (cond (leb (used + (4 + n)) long) None (Some NoRoom)) (Some BadTag) (good_tag t e).0 ∙ cond-false (leb (used + (4 + n)) long) None (Some NoRoom) f

  pub accepted : (t : ℕ) → Some t ≡ tag_for kind id n → leb (used + (4 + n)) long ≡ true → put_refusal used long kind id n ≡ None
  unfolding put_refusal
  accepted t e f =
      cond-true (is_sound kind id n) (cond (leb (used + (4 + n)) long) None (Some NoRoom)) (Some BadTag) (good_tag t e).0 ∙ cond-true (leb (used + (4 + n)) long) None (Some NoRoom) f

pub pad_is : (n : ℕ) → (16 - (n % 16 + 8) % 16) % 16 ≡ pad_of n
pad_is n = let same : (n % 16 + 8) % 16 ≡ (n + 8) % 16 = omega arith in ap (λ x. (16 - x) % 16) same

pub end_refused : (used long pad : ℕ) → pad ≡ pad_of used → leb (used + (8 + pad)) long ≡ false → end_refusal used long ≡ Some NoRoom
unfolding end_refusal
end_refused used long pad e f = cond-false (leb (used + (8 + pad_of used)) long) None (Some NoRoom) (ap (λ p. leb (used + (8 + p)) long) (sym e) ∙ f)

pub end_accepted : (used long pad : ℕ) → pad ≡ pad_of used → leb (used + (8 + pad)) long ≡ true → end_refusal used long ≡ None
unfolding end_refusal
end_accepted used long pad e f = cond-true (leb (used + (8 + pad_of used)) long) None (Some NoRoom) (ap (λ p. leb (used + (8 + p)) long) (sym e) ∙ f)

-- the three writes of the end of a commit
pub end_put : (b b1 b2 b3 : List ℕ) (i prior : ℕ) → length (take i b) ≡ i
    → Put b b1 i (be4 (bit_xor (ending (pad_of i)) prior)) → Put b1 b2 (i + 4) (le4 (crc_of seed (take (i + 4) b1))) → Put b2 b3 (i + 8) (replicate (pad_of i) 0xff)
    → Put b b3 i (end_bytes (take i b) prior)
unfolding end_bytes
end_put b b1 b2 b3 i prior l p q r =
    let pad = pad_of i in
    let w = bit_xor (ending pad) prior in
    let same : end_with pad (take i b) prior ≡ end_with (pad_of (length (take i b))) (take i b) prior = sym (ap (λ n. end_with (pad_of n) (take i b) prior) l) in
    let q1 : Put b1 b2 (i + 4) (le4 (crc_of seed (take i b ++ be4 w))) = subst (λ xs. Put b1 b2 (i + 4) (le4 (crc_of seed xs))) p.front q in
    let all : Put b b3 i (end_with pad (take i b) prior) = then (then p q1) r in
    subst (λ xs. Put b b3 i xs) same all

-- a slice of bytes, by what is known of each of them
pub small : (xs : List ℕ) → ((i : ℕ) → get_or xs i 0 < 256) → AllByRecursion (λ x. x < 256) xs
small [] h = tt
small (x ∷ xs) h = (h 0, small xs (λ i. h (suc i)))

-- the test of an entry's fields says that it can be written
pub sound : (kind id : ℕ) (bytes : List ℕ) → is_sound kind id (length bytes) ≡ true → AllByRecursion (λ x. x < 256) bytes → Sound (piece kind id bytes)
sound kind id bytes e h =
    let front = and_parts (ltb kind (2 ^ 11)) (not (eqb (kind / 16) 0x50) && (ltb id (2 ^ 10) && ltb (length bytes) (2 ^ 10))) e in
    let b = and_parts (not (eqb (kind / 16) 0x50)) (ltb id (2 ^ 10) && ltb (length bytes) (2 ^ 10)) front.1 in
    let c = and_parts (ltb id (2 ^ 10)) (ltb (length bytes) (2 ^ 10)) b.1 in
    record {
      kind = ltb-true kind (2 ^ 11) front.0;
      plain = eqb-false (kind / 16) 0x50 (not-true (eqb (kind / 16) 0x50) b.0);
      id = ltb-true id (2 ^ 10) c.0;
      long = ltb-true (length bytes) (2 ^ 10) c.1;
      small = h;
    }
