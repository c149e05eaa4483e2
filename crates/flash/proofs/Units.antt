-- The programs that put a content into a block: the first units and then the others, and the bytes that they leave.
-- Free units take every one of these programs.
use Rattle.std.proofs.Common.{◌≡◌, ℕ, zero, suc, ◌+◌, ◌*◌, ◌%◌, ◌<◌, ◌≤◌, true, false, List, [], ◌++◌, length, take, drop, None, sym, ap, ◌∙◌, add-zero, zero-add, arith, length-drop, length-set, take-append-drop, length-take, get_or-set_same}
use lib.Seq.{paste}
use Rattle.std.proofs.lemmas.List.{set-set, set-get_or, drop-drop}
use Rattle.std.proofs.lemmas.List.Edits.{paste_none, length-paste, drop-paste, paste-paste}
use Rattle.flash.specs.Card.{Card, bytes, is_good, put}
use Rattle.flash.specs.Write.{program, is_erased, part, refusal, written}
use Rattle.flash.specs.Runs.{after, Accepted, units}
use Rattle.flash.proofs.Blank.{erased_part_front, erased_part_rest}
use Rattle.flash.proofs.Refusals.{MayProgram, may_program, program_may}

-- the first n units, and then the others
pub units_append : (b at n m : ℕ) (content : List ℕ) → units b at (n + m) content ≡ units b at n content ++ units b (at + 16 * n) m (drop (16 * n) content)
units_append b at zero m content =
    let z = zero-add m in
    let a = add-zero at in
    cc
units_append b at (suc n) m content =
    let s : suc n + m ≡ suc (n + m) = omega arith in
    let i = units_append b (at + 16) n m (drop 16 content) in
    let p : at + 16 + 16 * n ≡ at + 16 * suc n = omega arith in
    let q : 16 + 16 * n ≡ 16 * suc n = omega arith in
    let d = drop-drop (16 * n) 16 content in
    rw s (cc)

pub bytes_put : (c : Card) (b : ℕ) (xs : List ℕ) → b < length c.blocks → bytes (put c b xs) b ≡ xs
bytes_put c b xs h = get_or-set_same c.blocks b xs [] h

pub put_put : (c : Card) (b : ℕ) (xs ys : List ℕ) → put (put c b xs) b ys ≡ put c b ys
put_put c b xs ys = ap (λ l. record { size = c.size; blocks = l; good = c.good; dark = c.dark }) (set-set c.blocks b xs ys)

-- a block given its own bytes
pub put_same : (c : Card) (b : ℕ) → put c b (bytes c b) ≡ c
put_same c b = ap (λ l. record { size = c.size; blocks = l; good = c.good; dark = c.dark }) (set-get_or c.blocks b [])

-- n free units of block b: what `is_free` says, with the length of the block, as facts
pub record Free (c : Card) (b at n : ℕ) : Type 0 where
  pub powered : c.dark ≡ false
  pub block : b < length c.blocks
  pub good : is_good c b ≡ true
  pub aligned : at % 16 ≡ 0
  pub inside : at + 16 * n ≤ c.size
  pub long : length (bytes c b) ≡ c.size
  pub blank : is_erased (part (bytes c b) at (16 * n)) ≡ true

-- the first of free units may be programmed
pub free_first : (c : Card) (b at n : ℕ) (u : List ℕ) → Free c b at (suc n) → length u ≡ 16 → refusal c (program b at u) ≡ None
free_first c b at n u f l = program_may c b at u (record {
  powered = f.powered;
  block = f.block;
  sixteen = l;
  aligned = f.aligned;
  inside = omega (arith, f.inside);
  good = f.good;
  blank = erased_part_front (bytes c b) at 16 (16 * suc n) (omega arith) f.blank;
})

-- and the others are free behind it
pub free_rest : (c : Card) (b at n : ℕ) (u : List ℕ) → Free c b at (suc n) → length u ≡ 16 → Free (written c (program b at u)) b (at + 16) n
free_rest c b at n u f l =
    let xs : List ℕ = bytes c b in
    let new : List ℕ = paste xs at u 16 in
    let is : bytes (put c b new) b ≡ new = bytes_put c b new f.block in
    let in' : at + 16 ≤ length xs = omega (arith, f.inside, f.long) in
    let same : drop (at + 16) new ≡ drop (at + 16) xs = drop-paste xs at u 16 (omega arith) (omega arith) in
    let e : 16 + 16 * n ≡ 16 * suc n = omega arith in
    record {
      powered = f.powered;
      block = rw length-set f.block;
      good = f.good;
      aligned = omega (arith, f.aligned);
      inside = omega (arith, f.inside);
      long = ap length is ∙ length-paste xs at u 16 in' (omega arith) ∙ f.long;
      blank = rw (is, same) (erased_part_rest xs at 16 (16 * n) (rw e f.blank));
    }

-- so none of the programs is refused
pub free_accepted : (c : Card) (b at n : ℕ) (content : List ℕ) → Free c b at n → 16 * n ≤ length content → Accepted c (units b at n content)
free_accepted c b at zero content f l = tt
free_accepted c b at (suc n) content f l =
    let lu : length (take 16 content) ≡ 16 = simp length-take (omega arith) in
    (free_first c b at n (take 16 content) f lu, free_accepted (written c (program b at (take 16 content))) b (at + 16) n (drop 16 content) (free_rest c b at n (take 16 content) f lu) (simp length-drop (omega arith)))

-- programs that were all done leave the content in its place, and all else as it was
pub units_after : (c : Card) (b at n : ℕ) (content : List ℕ) → (b < length c.blocks → length (bytes c b) ≡ c.size) → length content ≡ 16 * n → Accepted c (units b at n content) → after c (units b at n content) ≡ put c b (paste (bytes c b) at content (16 * n))
units_after c b at zero content long l h =
    sym (put_same c b) ∙ ap (put c b) (paste_none (bytes c b) at content)
units_after c b at (suc n) content long l h =
    let u : List ℕ = take 16 content in
    let rest : List ℕ = drop 16 content in
    let m : MayProgram c b at (length u) = may_program c b at u h.0 in
    let xs : List ℕ = bytes c b in
    let ll : length xs ≡ c.size = long m.block in
    let lu : length u ≡ 16 = m.sixteen in
    let new : List ℕ = paste xs at u 16 in
    let is : bytes (put c b new) b ≡ new = bytes_put c b new m.block in
    let ln : length new ≡ length xs = length-paste xs at u 16 (omega (arith, m.inside)) (omega arith) in
    let lr : length rest ≡ 16 * n = length-drop 16 content ∙ omega arith in
    let i : after (put c b new) (units b (at + 16) n rest) ≡ put (put c b new) b (paste (bytes (put c b new) b) (at + 16) rest (16 * n)) = units_after (put c b new) b (at + 16) n rest (λ _. ap length is ∙ ln ∙ ll) lr h.1 in
    let p : paste new (at + 16) rest (16 * n) ≡ paste xs at (u ++ rest) (16 + 16 * n) = paste-paste xs at u rest 16 (16 * n) (sym lu) (sym lr) (omega (arith, m.inside)) in
    let t : u ++ rest ≡ content = take-append-drop 16 content in
    let e : 16 + 16 * n ≡ 16 * suc n = omega arith in
    i ∙ put_put c b new (paste (bytes (put c b new) b) (at + 16) rest (16 * n)) ∙ ap (put c b) (ap (λ ys. paste ys (at + 16) rest (16 * n)) is ∙ p ∙ ap (λ ys. paste xs at ys (16 + 16 * n)) t ∙ ap (λ k. paste xs at content k) e)
