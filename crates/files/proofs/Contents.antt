-- The content of a file, block after block: where a place of it stands.
use Rattle.std.proofs.Common.{◌≡◌, ℕ, zero, suc, ◌+◌, ◌-◌, ◌<◌, ◌≤◌, List, [], ◌∷◌, ◌++◌, length, get_or, take, drop, sym, ap, ◌∙◌, arith}
use Rattle.std.proofs.lemmas.List.{length-drop, drop-drop, drop_at, drop-append-le, take-append-le}
use Rattle.flash.specs.Card.{Card, Shaped, bytes}
use Rattle.flash.specs.Write.{part}
use Rattle.skiplist.specs.Layout.{header_of, start_of, Stands}
use Rattle.skiplist.proofs.Starts.{start_zero, start_suc, start_le, header_le}
use Rattle.volume.specs.Files.{content_from}
use Rattle.files.specs.Steps.{AllUsable}
use Rattle.files.proofs.Cards.{good_there}

-- every block of the list has s bytes
abbrev pub AllLong : Card → ℕ → List ℕ → Type 0
AllLong c s bs = (j : ℕ) → j < length bs → length (bytes c (get_or bs j 0)) ≡ s

-- the blocks of a file are as long as the card says
pub usable_long : (c : Card) (bs : List ℕ) → Shaped c → AllUsable c bs → AllLong c c.size bs
usable_long c bs shaped good j less = shaped.long (get_or bs j 0) (good_there c (get_or bs j 0) shaped (good j less))

-- behind a front of m elements
drop_behind : (m q : ℕ) (xs ys : List ℕ) → length xs ≡ m → drop (m + q) (xs ++ ys) ≡ drop q ys
drop_behind m q xs ys e = sym (drop-drop q m (xs ++ ys)) ∙ ap (drop q) (drop_at xs ys m e)

-- n bytes of the content, from the file's block i on, that stand in block i + j
content_from_lem : (c : Card) (s : ℕ) (bs : List ℕ) (i j p n : ℕ) → 512 ≤ s → AllLong c s bs → j < length bs → start_of s (i + j) ≤ p → p + n ≤ start_of s (suc (i + j))
    → part (content_from c i bs) (p - start_of s i) n ≡ part (bytes c (get_or bs j 0)) (header_of (i + j) + (p - start_of s (i + j))) n
content_from_lem c s [] i j p n lo long less after before = absurd (omega arith)
content_from_lem c s (b ∷ bs) i zero p n lo long less after before =
    let here : i + 0 ≡ i = omega arith in
    let start = ap (start_of s) here in
    let head = ap header_of here in
    let first : List ℕ = drop (header_of i) (bytes c b) in
    let size : length first ≡ s - header_of i = length-drop (header_of i) (bytes c b) ∙ ap (λ (x : ℕ). x - header_of i) (long 0 (omega arith)) in
    let next = ap (λ (x : ℕ). start_of s (suc x)) here ∙ start_suc s i in
    let few = header_le i in
    let off : ℕ = p - start_of s i in
    let inside : off + n ≤ s - header_of i = omega arith in
    let at : header_of i + off ≡ header_of (i + 0) + (p - start_of s (i + 0)) = omega arith in
    let fits : n ≤ length (drop off first) = omega (arith, length-drop off first) in
    ap (take n) (drop-append-le off first (content_from c (suc i) bs) (omega arith))
    ∙ take-append-le n (drop off first) (content_from c (suc i) bs) fits
    ∙ ap (take n) (drop-drop off (header_of i) (bytes c b))
    ∙ ap (λ (x : ℕ). take n (drop x (bytes c b))) at
content_from_lem c s (b ∷ bs) i (suc j) p n lo long less after before =
    let up : i + suc j ≡ suc i + j = omega arith in
    let start = ap (start_of s) up in
    let end = ap (λ (x : ℕ). start_of s (suc x)) up in
    let first : List ℕ = drop (header_of i) (bytes c b) in
    let size : length first ≡ s - header_of i = length-drop (header_of i) (bytes c b) ∙ ap (λ (x : ℕ). x - header_of i) (long 0 (omega arith)) in
    let over : p - start_of s i ≡ (s - header_of i) + (p - start_of s (suc i)) = omega (arith, start_suc s i, start_le s (suc i) (suc i + j) (omega arith)) in
    let rest = content_from_lem c s bs (suc i) j p n lo (λ k l. long (suc k) (omega arith)) (omega arith) (omega arith) (omega arith) in
    ap (λ (x : ℕ). take n (drop x (first ++ content_from c (suc i) bs))) over
    ∙ ap (take n) (drop_behind (s - header_of i) (p - start_of s (suc i)) first (content_from c (suc i) bs) size)
    ∙ rest
    ∙ sym (ap (λ (x : ℕ). part (bytes c (get_or bs j 0)) (header_of x + (p - start_of s x)) n) up)

-- n bytes of a file that stand in one block
pub content_at : (c : Card) (s : ℕ) (bs : List ℕ) (p n block at : ℕ) → 512 ≤ s → AllLong c s bs → block < length bs → Stands s p block at → at + n ≤ s
    → part (content_from c 0 bs) p n ≡ part (bytes c (get_or bs block 0)) at n
content_at c s bs p n block at lo long less stands fits =
    let zero-add : 0 + block ≡ block = omega arith in
    let start = ap (start_of s) zero-add in
    let end = ap (λ (x : ℕ). start_of s (suc x)) zero-add ∙ start_suc s block in
    let head = ap header_of zero-add in
    let here = stands.at in
    let after = stands.after in
    let none : p ≡ p - start_of s 0 = omega (arith, start_zero s) in
    let place : header_of (0 + block) + (p - start_of s (0 + block)) ≡ at = omega arith in
    ap (λ (x : ℕ). part (content_from c 0 bs) x n) none
    ∙ content_from_lem c s bs 0 block p n lo long less (omega arith) (omega (arith, header_le block))
    ∙ ap (λ (x : ℕ). part (bytes c (get_or bs block 0)) x n) place
