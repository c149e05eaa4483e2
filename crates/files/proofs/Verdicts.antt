-- The verdict on a file, from the answers of the steps of its check.
use Rattle.std.proofs.Common.{◌≡◌, ℕ, zero, suc, ◌-◌, Bool, true, false, cond, ◌&&◌, leb, List, [], ◌∷◌, ◌++◌, length, take, Some, None, Ok, Err, Option, Result, sym, refl, ap, ◌∙◌, subst, ⊎_elim, arith}
use Rattle.std.proofs.lemmas.List.{length_push, get_or_append_left, get_or_push}
use Rattle.std.proofs.lemmas.Bool.{cases_lt, cond-true, cond-false}
use Rattle.blockset.specs.declared.BlockSet.{BlockSet}
use Rattle.flash.specs.Card.{Card, bytes}
use Rattle.metalog.specs.Tag.{le32}
use Rattle.skiplist.specs.Places.{file_limit, block_of}
use Rattle.skiplist.specs.Sizes.{bytes_of}
use Rattle.skiplist.specs.declared.size.BlockSize.{BlockSize}
use Rattle.volume.specs.Thread.{usable, member, first_of}
use Rattle.volume.specs.Files.{chain, chain_fault, word_fault, file_fault}
use Rattle.volume.specs.Check.{is_size}
use Rattle.volume.specs.declared.fault.What.{What}
use Rattle.volume.specs.declared.fault.What.TheVariants.{Dark, Size, Tag, EntryBlock, BlockTwice}
use Rattle.volume.specs.Marks.{Marks}
use Rattle.files.specs.Verdict.{verdict, FileChecked}
use Rattle.volume.specs.Sizes.{Fit, SizeTold}
use Rattle.files.specs.Steps.{LastBlock, Told, AllUsable}

-- ---- the blocks of a file in which nothing is wrong are good

-- a file has one block more than its last block's number
pub chain_length : (n : ℕ) (c : Card) (h : ℕ) → length (chain n c h) ≡ suc n
unfolding chain
chain_length zero c h = refl
chain_length (suc n) c h = omega (arith, length_push (chain n c (le32 (bytes c h) 0)) h, chain_length n c (le32 (bytes c h) 0))

none_good : (g m : Bool) (rest : Option What) → cond g (cond m (Some BlockTwice) rest) (Some EntryBlock) ≡ None → (g ≡ true) × (rest ≡ None)
none_good true true rest e = let bad : ◌≡◌ {A = ℕ} 0 1 = cc in absurd (omega arith)
none_good true false rest e = (refl, e)
none_good false m rest e = let bad : ◌≡◌ {A = ℕ} 0 1 = cc in absurd (omega arith)

pub chain_usable : (n : ℕ) (c : Card) (seen : List ℕ) (h : ℕ) → chain_fault n c seen h ≡ None → AllUsable c (chain n c h)
unfolding chain chain_fault
chain_usable zero c seen h e zero less = (none_good (usable c h) (member h seen) None e).0
chain_usable zero c seen h e (suc i) less = absurd (omega arith)
chain_usable (suc n) c seen h e i less =
    let next = le32 (bytes c h) 0 in
    let both = none_good (usable c h) (member h seen) (chain_fault n c (h ∷ seen) next) e in
    ⊎_elim
    (λ l. ap (usable c) (get_or_append_left (chain n c next) (h ∷ []) 0 i l) ∙ chain_usable n c (h ∷ seen) next both.1 i l)
    (λ l. ap (usable c) (get_or_push (chain n c next) h 0 i (omega (arith, length_push (chain n c next) h))) ∙ both.0)
    (cases_lt i (length (chain n c next)))

-- ---- the verdict

-- what is wrong with the card
pub told_card : (d z l : Bool) (w : What) (v : Option What) → cond d (Some Dark) (cond z None (Some Size)) ≡ Some w → cond d (Some Dark) (cond z (cond l v (Some Tag)) (Some Size)) ≡ Some w
told_card true z l w v e = e
told_card false true l w v e = let bad : ◌≡◌ {A = ℕ} 0 1 = cc in absurd (omega arith)
told_card false false l w v e = e

-- the card is as it should be
verdict_open : (c : Card) (seen : List ℕ) (head n : ℕ) → Fit c → is_size c.size (length c.blocks) ≡ true → verdict c seen head n ≡ cond (leb 1 n && leb n file_limit) (file_fault c seen head n) (Some Tag)
unfolding verdict
verdict_open c seen head n fit sized = cond-false c.dark (Some Dark) _ fit.powered ∙ cond-true (is_size c.size (length c.blocks)) _ (Some Size) sized

-- a file that there may be: its last block's number is known
pub verdict_file : (c : Card) (seen : List ℕ) (head n : ℕ) (size : BlockSize) (last : ℕ) → SizeTold c (Ok size) → LastBlock (bytes_of size) n (Some last) → (verdict c seen head n ≡ file_fault c seen head n) × (block_of c.size (n - 1) ≡ last)
verdict_file c seen head n size last told there = (
  verdict_open c seen head n told.0 told.2 ∙ cond-true (leb 1 n && leb n file_limit) (file_fault c seen head n) (Some Tag) there.0,
  ap (λ (s : ℕ). block_of s (n - 1)) (sym told.1) ∙ sym there.1,
)

pub fault_parts : (c : Card) (seen : List ℕ) (head n last : ℕ) → block_of c.size (n - 1) ≡ last → file_fault c seen head n ≡ first_of (chain_fault last c seen head) (word_fault c (chain last c head))
unfolding file_fault
fault_parts c seen head n last e = ap (λ (m : ℕ). first_of (chain_fault m c seen head) (word_fault c (chain m c head))) e

pub verdict_chain : (c : Card) (seen : List ℕ) (head n : ℕ) (size : BlockSize) (last : ℕ) (w : What) → SizeTold c (Ok size) → LastBlock (bytes_of size) n (Some last) → chain_fault last c seen head ≡ Some w → verdict c seen head n ≡ Some w
verdict_chain c seen head n size last w told there e =
    let file = verdict_file c seen head n size last told there in
    file.0 ∙ fault_parts c seen head n last file.1 ∙ ap (λ o. first_of o (word_fault c (chain last c head))) e

-- the answer of the whole check, where the words of the first k stored blocks are checked last
pub checked_all : {T : Type 0} (c : Card) (seen : List ℕ) (head n : ℕ) (size : BlockSize) (last k : ℕ) (s : BlockSet) (ts : List ℕ) (r : Result T What) → SizeTold c (Ok size) → LastBlock (bytes_of size) n (Some last)
    → k ≡ suc last → chain_fault last c seen head ≡ None → Marks s (chain last c head ++ seen) → take (suc last) ts ≡ chain last c head
    → (AllUsable c (take k ts) → Told (word_fault c (take k ts)) r) → FileChecked c seen head n r s
checked_all {T} c seen head n size last k s ts r told there whole none marks is words = by r (words (subst (AllUsable c) (sym stored) (chain_usable last c seen head none)))
  where
    file : (verdict c seen head n ≡ file_fault c seen head n) × (block_of c.size (n - 1) ≡ last)
    file = verdict_file c seen head n size last told there

    stored : take k ts ≡ chain last c head
    stored = ap (λ (m : ℕ). take m ts) whole ∙ is

    left : verdict c seen head n ≡ word_fault c (take k ts)
    left = file.0 ∙ fault_parts c seen head n last file.1 ∙ ap (λ o. first_of o (word_fault c (chain last c head))) none ∙ ap (word_fault c) (sym stored)

    by : (r : Result T What) → Told (word_fault c (take k ts)) r → FileChecked c seen head n r s
    by (Ok _) e = (left ∙ e, subst (λ (m : ℕ). Marks s (chain m c head ++ seen)) (sym file.1) marks)
    by (Err w) e = left ∙ e
