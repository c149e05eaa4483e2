-- One block's part of a copy: the part can be read, and goes behind what was copied before.
use Rattle.std.proofs.Common.{◌≡◌, ℕ, suc, ◌+◌, ◌-◌, ◌<◌, ◌≤◌, List, ◌++◌, length, get_or, take, drop, Ok, Err, Result, sym, refl, ap, ◌∙◌, subst, ⊎_elim, arith, take-add}
use borrow.Rule.Slice.PartMut.{put_mid}
use Rattle.std.proofs.lemmas.List.{length-take-le, length-drop, drop-drop, take_all}
use Rattle.std.proofs.lemmas.Slice.{take-put_mid}
use Rattle.std.proofs.lemmas.Bool.{cases_lt}
use Rattle.flash.specs.Card.{Card, Shaped, bytes}
use Rattle.flash.specs.Write.{part}
use Rattle.skiplist.specs.Layout.{start_of, Stands}
use Rattle.skiplist.proofs.Starts.{start_le}
use Rattle.volume.specs.Files.{content_from}
use Rattle.volume.specs.declared.fault.What.{What}
use Rattle.volume.specs.Sizes.{Fit}
use Rattle.files.specs.Steps.{Within, FileAt, Copied}
use Rattle.files.proofs.Cards.{good_there}
use Rattle.files.proofs.Contents.{AllLong, usable_long, content_at}

-- n bytes of a file from the place p on, that stand in its block of the number i at an offset
pub record FromBlock (c : Card) (bs : List ℕ) (last p n i at : ℕ) : Type 0 where
  pub before : i ≤ last
  pub within : Within c (get_or bs i 0) (at + n)
  pub long : at + n ≤ length (bytes c (get_or bs i 0))
  pub same : part (content_from c 0 bs) p n ≡ part (bytes c (get_or bs i 0)) at n

pub from_block : (c : Card) (bs : List ℕ) (head last s p n i at : ℕ) → Shaped c → Fit c → s ≡ c.size → FileAt c bs head last → Stands s p i at → p < start_of s (suc last) → at + n ≤ s → FromBlock c bs last p n i at
from_block c bs head last s p n i at shaped fit is f stands less fits =
    let le : i ≤ last = ⊎_elim (λ l. omega (arith, start_le s (suc last) i l, stands.after)) (λ l. l) (cases_lt last i) in
    let there : i < length bs = omega (arith, f.many) in
    let long : AllLong c s bs = subst (λ (x : ℕ). AllLong c x bs) (sym is) (usable_long c bs shaped f.good) in
    record {
      before = le;
      within = record { powered = fit.powered; block = good_there c (get_or bs i 0) shaped (f.good i there); inside = omega arith };
      long = omega (arith, long i there);
      same = content_at c s bs p n i at (omega (arith, fit.wide)) long there stands fits;
    }

-- what was copied before, and a part behind it
part_more : (xs : List ℕ) (p n m : ℕ) → part xs p (n + m) ≡ part xs p n ++ part xs (p + n) m
part_more xs p n m = take-add n m (drop p xs) ∙ ap (λ (ys : List ℕ). take n (drop p xs) ++ take m ys) (drop-drop n p xs)

-- the part of a buffer from n up to e has as many bytes
slice_length : (out : List ℕ) (n e : ℕ) → e ≤ length out → length (take (e - n) (drop n out)) ≡ e - n
slice_length out n e fits = length-take-le (e - n) (drop n out) (omega (arith, length-drop n out))

-- one part more: the buffer's part from n up to e was filled from a block
pub copied_more : (c : Card) (bs : List ℕ) (last place i at block n e : ℕ) (out new : List ℕ) → n ≤ e → e ≤ length out → FromBlock c bs last (place + n) (e - n) i at → block ≡ get_or bs i 0
    → new ≡ part (bytes c block) at (length (take (e - n) (drop n out))) → take n out ≡ part (content_from c 0 bs) place n → take e (put_mid n (e - n) out new) ≡ part (content_from c 0 bs) place e
copied_more c bs last place i at block n e out new le fits here is read before =
    let xs : List ℕ = content_from c 0 bs in
    let from : List ℕ = bytes c (get_or bs i 0) in
    let filled : new ≡ part from at (e - n) = read ∙ ap (λ (b : ℕ). part (bytes c b) at (length (take (e - n) (drop n out)))) is ∙ ap (part from at) (slice_length out n e fits) in
    let many : length new ≡ e - n = ap length filled ∙ length-take-le (e - n) (drop at from) (omega (arith, length-drop at from, here.long)) in
    let whole : n + (e - n) ≡ e = omega arith in
    take-put_mid n (e - n) out new e (omega arith) (omega arith)
    ∙ ap (λ (ys : List ℕ). ys ++ new) before
    ∙ ap (λ (ys : List ℕ). part xs place n ++ ys) (filled ∙ sym here.same)
    ∙ sym (part_more xs place n (e - n))
    ∙ ap (part xs place) whole

-- no such part is refused
pub never_refused : (c : Card) (bs : List ℕ) (last p i at block n e : ℕ) (out : List ℕ) → e ≤ length out → FromBlock c bs last p (e - n) i at → block ≡ get_or bs i 0
    → (Within c block (at + length (take (e - n) (drop n out))) → ⊥) → ⊥
never_refused c bs last p i at block n e out fits here is refused =
    refused (subst (λ (b : ℕ). Within c b (at + length (take (e - n) (drop n out)))) (sym is) (subst (λ (k : ℕ). Within c (get_or bs i 0) (at + k)) (sym (slice_length out n e fits)) here.within))

-- nothing is both an answer and a fault
pub no_answer : {A : Type 0} (w : What) (x : A) → ◌≡◌ {A = Result A What} (Err w) (Ok x) → ⊥
no_answer w x e = let bad : ◌≡◌ {A = ℕ} 0 1 = cc in omega arith

pub same_answer : {A : Type 0} (x y : A) → ◌≡◌ {A = Result A What} (Ok x) (Ok y) → x ≡ y
same_answer x y e = cc

-- all of it
pub copied_all : (c : Card) (bs : List ℕ) (place n : ℕ) (old out : List ℕ) → length out ≡ length old → length out ≤ n → n ≤ length old → take n out ≡ part (content_from c 0 bs) place n → Copied c bs place old (Ok tt) out
copied_all c bs place n old out same all most before =
    let whole : n ≡ length old = omega arith in
    record { answer = refl; holds = sym (take_all n out all) ∙ before ∙ ap (part (content_from c 0 bs) place) whole }
