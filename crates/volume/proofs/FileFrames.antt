-- A file depends only on its own blocks.
use Rattle.std.proofs.Common.{◌≡◌, ℕ, zero, suc, ◌-◌, ◌*◌, ◌^◌, ◌<◌, ◌≤◌, true, false, cond, ◌&&◌, eqb, List, [], ◌∷◌, ◌++◌, length, get_or, take, drop, Some, None, Option, refl, ap, ◌∙◌, inl, inr, arith}
use Rattle.std.proofs.lemmas.Bool.{or_left, or_right, or_cases}
use Rattle.flash.specs.Card.{Card, bytes}
use Rattle.metalog.specs.Tag.{le32}
use Rattle.skiplist.specs.Layout.{pointers_of, header_of}
use Rattle.skiplist.specs.Places.{block_of}
use Rattle.volume.specs.Thread.{usable, member, first_of}
use Rattle.volume.specs.Files.{chain, checked, chain_fault, right_words, all_right, word_fault, content_from, file_blocks, file_bytes, file_fault}
use Rattle.volume.specs.declared.fault.What.{What}
use Rattle.volume.specs.declared.fault.What.TheVariants.{EntryBlock, BlockTwice, FileWord}
use Rattle.volume.proofs.Lists.{Same, Shape, head_member, tail_member}

-- ---- membership

pub member_left : (x : ℕ) (xs ys : List ℕ) → member x xs ≡ true → member x (xs ++ ys) ≡ true
member_left x [] ys h = let bad : ◌≡◌ {A = ℕ} 0 1 = cc in absurd (omega arith)
member_left x (y ∷ xs) ys h =
    elim (or_cases (eqb x y) (member x xs) h) [ inl e ↦ or_left (eqb x y) (member x (xs ++ ys)) e | inr e ↦ or_right (eqb x y) (member x (xs ++ ys)) (member_left x xs ys e) ]

pub member_right : (x : ℕ) (xs ys : List ℕ) → member x ys ≡ true → member x (xs ++ ys) ≡ true
member_right x [] ys h = h
member_right x (y ∷ xs) ys h = or_right (eqb x y) (member x (xs ++ ys)) (member_right x xs ys h)

pub member_at : (xs : List ℕ) (i : ℕ) → i < length xs → member (get_or xs i 0) xs ≡ true
member_at [] i h = absurd (omega arith)
member_at (x ∷ xs) zero h = head_member x xs
member_at (x ∷ xs) (suc i) h = tail_member (get_or xs i 0) x xs (member_at xs i (omega arith))

-- ---- the blocks of a file

pub chain_same : (n : ℕ) (c d : Card) (h : ℕ) → Same (chain n c h) c d → chain n d h ≡ chain n c h
unfolding chain
chain_same zero c d h s = refl
chain_same (suc n) c d h s =
    let next = le32 (bytes c h) 0 in
    let here : bytes d h ≡ bytes c h = s h (member_right h (chain n c next) (h ∷ []) (head_member h [])) in
    ap (λ xs. chain n d (le32 xs 0) ++ h ∷ []) here ∙ ap (λ xs. xs ++ h ∷ []) (chain_same n c d next (λ x k. s x (member_left x (chain n c next) (h ∷ []) k)))

checked_same : (c d : Card) (seen : List ℕ) (h : ℕ) (r q : Option What) → Shape c d → r ≡ q → checked d seen h r ≡ checked c seen h q
checked_same c d seen h r q s e =
    ap (λ g. cond (get_or g h false) (cond (member h seen) (Some BlockTwice) r) (Some EntryBlock)) s.good
    ∙ ap (λ w. cond (usable c h) (cond (member h seen) (Some BlockTwice) w) (Some EntryBlock)) e

pub chain_fault_same : (n : ℕ) (c d : Card) (seen : List ℕ) (h : ℕ) → Shape c d → Same (chain n c h) c d → chain_fault n d seen h ≡ chain_fault n c seen h
unfolding chain chain_fault
chain_fault_same zero c d seen h s e = checked_same c d seen h None None s refl
chain_fault_same (suc n) c d seen h s e =
    let next = le32 (bytes c h) 0 in
    let here : bytes d h ≡ bytes c h = e h (member_right h (chain n c next) (h ∷ []) (head_member h [])) in
    checked_same c d seen h (chain_fault n d (h ∷ seen) (le32 (bytes d h) 0)) (chain_fault n c (h ∷ seen) next) s
    (ap (λ xs. chain_fault n d (h ∷ seen) (le32 xs 0)) here ∙ chain_fault_same n c d (h ∷ seen) next s (λ x k. e x (member_left x (chain n c next) (h ∷ []) k)))

-- ---- its words and its bytes

words_same : (c d : Card) (bs : List ℕ) (i : ℕ) (k : ℕ) → bytes d (get_or bs i 0) ≡ bytes c (get_or bs i 0) → right_words d bs i k ≡ right_words c bs i k
words_same c d bs i zero e = refl
words_same c d bs i (suc k) e =
    ap (λ xs. eqb (le32 xs (4 * k)) (get_or bs (i - 2 ^ k) 0) && right_words d bs i k) e ∙ ap (λ v. eqb (le32 (bytes c (get_or bs i 0)) (4 * k)) (get_or bs (i - 2 ^ k) 0) && v) (words_same c d bs i k e)

all_words_same : (c d : Card) (bs : List ℕ) (n : ℕ) → n ≤ length bs → Same bs c d → all_right d bs n ≡ all_right c bs n
all_words_same c d bs zero h s = refl
all_words_same c d bs (suc i) h s =
    ap (λ v. v && all_right d bs i) (words_same c d bs i (pointers_of i) (s (get_or bs i 0) (member_at bs i (omega arith)))) ∙ ap (λ v. right_words c bs i (pointers_of i) && v) (all_words_same c d bs i (omega arith) s)

content_same : (c d : Card) (i : ℕ) (bs : List ℕ) → Same bs c d → content_from d i bs ≡ content_from c i bs
content_same c d i [] s = refl
content_same c d i (b ∷ bs) s =
    ap (λ xs. drop (header_of i) xs ++ content_from d (suc i) bs) (s b (head_member b bs)) ∙ ap (λ xs. drop (header_of i) (bytes c b) ++ xs) (content_same c d (suc i) bs (λ x k. s x (tail_member x b bs k)))

-- ---- the whole file

module _ (c d : Card) (h size : ℕ) (s : Shape c d) (e : Same (file_blocks c h size) c d) where
  pub file_blocks_same : file_blocks d h size ≡ file_blocks c h size
  file_blocks_same = ap (λ z. chain (block_of z (size - 1)) d h) s.size ∙ chain_same (block_of c.size (size - 1)) c d h e

  pub file_bytes_same : file_bytes d h size ≡ file_bytes c h size
  file_bytes_same = ap (λ bs. take size (content_from d 0 bs)) file_blocks_same ∙ ap (take size) (content_same c d 0 (file_blocks c h size) e)

  pub file_fault_same : (seen : List ℕ) → file_fault d seen h size ≡ file_fault c seen h size
  unfolding file_fault
  file_fault_same seen =
      let n = block_of c.size (size - 1) in
      ap (λ z. first_of (chain_fault (block_of z (size - 1)) d seen h) (word_fault d (file_blocks d h size))) s.size
      ∙ ap (λ w. first_of w (word_fault d (file_blocks d h size))) (chain_fault_same n c d seen h s e)
      ∙ ap (λ bs. first_of (chain_fault n c seen h) (word_fault d bs)) file_blocks_same
      ∙ ap (λ v. first_of (chain_fault n c seen h) (cond v None (Some FileWord))) (all_words_same c d (file_blocks c h size) (length (file_blocks c h size)) (omega arith) e)
