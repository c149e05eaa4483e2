-- Words that are right, one after the other, and one that is not.
use Rattle.std.proofs.Common.{◌≡◌, ℕ, zero, suc, ◌+◌, ◌-◌, ◌*◌, ◌^◌, ◌<◌, Bool, true, false, cond, eqb, List, length, get_or, Some, None, sym, refl, ap, ◌∙◌, subst, ⊎_elim, add-one, arith}
use native.Mathlib.Decide.{le_ind}
use Rattle.std.proofs.lemmas.Bool.{eq-eqb, ne_eqb, and_from, and_left, and_right, and_parts, eqb-true, cond-false, cases_eq}
use Rattle.flash.specs.Card.{Card, bytes}
use Rattle.metalog.specs.Tag.{le32}
use Rattle.skiplist.specs.Layout.{pointers_of}
use Rattle.volume.specs.Files.{right_words, all_right, word_fault}
use Rattle.volume.specs.declared.fault.What.{What}
use Rattle.volume.specs.declared.fault.What.TheVariants.{FileWord}
use Rattle.files.specs.Steps.{block_fault}

-- one word more that names the block that it should
pub right_more : (c : Card) (bs : List ℕ) (i k step named : ℕ) → step ≡ 2 ^ k → named ≡ le32 (bytes c (get_or bs i 0)) (4 * k) → named ≡ get_or bs (i - step) 0 → right_words c bs i k ≡ true → right_words c bs i (k + 1) ≡ true
right_more c bs i k step named is read same h =
    ap (right_words c bs i) (add-one k)
    ∙ and_from (eqb (le32 (bytes c (get_or bs i 0)) (4 * k)) (get_or bs (i - 2 ^ k) 0)) (right_words c bs i k) (eq-eqb _ _ (sym read ∙ same ∙ ap (λ (x : ℕ). get_or bs (i - x) 0) is)) h

-- a word that does not makes the block wrong
pub right_stops : (c : Card) (bs : List ℕ) (i k step named : ℕ) → step ≡ 2 ^ k → named ≡ le32 (bytes c (get_or bs i 0)) (4 * k) → (named ≡ get_or bs (i - step) 0 → ⊥) → k < pointers_of i → block_fault c bs i ≡ Some FileWord
right_stops c bs i k step named is read other less =
    let wrong : eqb (le32 (bytes c (get_or bs i 0)) (4 * k)) (get_or bs (i - 2 ^ k) 0) ≡ false = ne_eqb _ _ (λ e. other (read ∙ e ∙ sym (ap (λ (x : ℕ). get_or bs (i - x) 0) is))) in
    cond-false (right_words c bs i (pointers_of i)) None (Some FileWord)
    (le_ind (λ (m : ℕ). right_words c bs i m ≡ false)
    (and_left (eqb (le32 (bytes c (get_or bs i 0)) (4 * k)) (get_or bs (i - 2 ^ k) 0)) (right_words c bs i k) wrong)
    (λ m _ h. and_right (eqb (le32 (bytes c (get_or bs i 0)) (4 * m)) (get_or bs (i - 2 ^ m) 0)) (right_words c bs i m) h)
    (pointers_of i) less)

-- every word of a block that is right names the block that it should
pub right_word : (c : Card) (bs : List ℕ) (i n k : ℕ) → right_words c bs i n ≡ true → k < n → le32 (bytes c (get_or bs i 0)) (4 * k) ≡ get_or bs (i - 2 ^ k) 0
right_word c bs i zero k h less = absurd (omega arith)
right_word c bs i (suc n) k h less =
    let both = and_parts (eqb (le32 (bytes c (get_or bs i 0)) (4 * n)) (get_or bs (i - 2 ^ n) 0)) (right_words c bs i n) h in
    ⊎_elim
    (λ e. subst (λ (m : ℕ). le32 (bytes c (get_or bs i 0)) (4 * m) ≡ get_or bs (i - 2 ^ m) 0) (sym e) (eqb-true _ _ both.0))
    (λ ne. right_word c bs i n k both.1 (omega arith))
    (cases_eq k n)

-- ---- all blocks

-- a block for which nothing is told is right, and one for which something is told is not
pub none_right : (b : Bool) → cond b None (Some FileWord) ≡ None → b ≡ true
none_right true e = refl
none_right false e = let bad : ◌≡◌ {A = ℕ} 0 1 = cc in absurd (omega arith)

some_wrong : (b : Bool) (w : What) → cond b None (Some FileWord) ≡ Some w → (b ≡ false) × (FileWord ≡ w)
some_wrong true w e = let bad : ◌≡◌ {A = ℕ} 0 1 = cc in absurd (omega arith)
some_wrong false w e = (refl, cc)

pub all_more : (c : Card) (bs : List ℕ) (i : ℕ) → block_fault c bs i ≡ None → all_right c bs i ≡ true → all_right c bs (i + 1) ≡ true
all_more c bs i told h = ap (all_right c bs) (add-one i) ∙ and_from (right_words c bs i (pointers_of i)) (all_right c bs i) (none_right _ told) h

pub all_stops : (c : Card) (bs : List ℕ) (i : ℕ) (w : What) → block_fault c bs i ≡ Some w → i < length bs → word_fault c bs ≡ Some w
all_stops c bs i w told less =
    let wrong = some_wrong (right_words c bs i (pointers_of i)) w told in
    let all : all_right c bs (length bs) ≡ false =
    le_ind (λ (m : ℕ). all_right c bs m ≡ false)
    (and_left (right_words c bs i (pointers_of i)) (all_right c bs i) wrong.0)
    (λ m _ h. and_right (right_words c bs m (pointers_of m)) (all_right c bs m) h)
    (length bs) less in
    cond-false (all_right c bs (length bs)) None (Some FileWord) all ∙ ap Some wrong.1

-- every block of a file that is right is right
pub all_right_lem : (c : Card) (bs : List ℕ) (n i : ℕ) → all_right c bs n ≡ true → i < n → right_words c bs i (pointers_of i) ≡ true
all_right_lem c bs zero i h less = absurd (omega arith)
all_right_lem c bs (suc n) i h less =
    let both = and_parts (right_words c bs n (pointers_of n)) (all_right c bs n) h in
    ⊎_elim
    (λ e. subst (λ (m : ℕ). right_words c bs m (pointers_of m) ≡ true) (sym e) both.0)
    (λ ne. all_right_lem c bs n i both.1 (omega arith))
    (cases_eq i n)
