-- A card's blocks in one run of bytes: how many there are, where each lies, how long each is, and which block a change
-- of the run changes. All lemmas are on `blocks_of`, for every size and number of blocks.
use Rattle.std.specs.Prelude.{◌≡◌, ℕ, zero, suc, ◌+◌, ◌*◌, ◌<◌, ◌≤◌, List, [], length, take, drop, set, replicate, slice_index_or, slice_set, refl}
use Rattle.std.proofs.Common.{sym, ap, ◌∙◌, add-zero, zero-add, zero-mul, suc-mul, mul-le-mul_right, arith, rules}
use Rattle.std.proofs.Math.Seq.{paste}
use Rattle.std.proofs.lemmas.List.{places, same_lists, length-take, length-drop, drop-drop, take-replicate, drop-replicate}
use Rattle.std.proofs.lemmas.List.Edits.{length-paste}
use Rattle.flash.specs.Image.{blocks_of}

-- there are as many blocks as asked for
pub length_blocks : (size n : ℕ) (xs : List ℕ) → length (blocks_of size n xs) ≡ n
length_blocks size zero xs = refl
length_blocks size (suc n) xs = ap suc (length_blocks size n (drop size xs))

-- block i lies behind the i blocks before it
pub block_lies : (size n : ℕ) (xs : List ℕ) (i : ℕ) → i < n → slice_index_or (blocks_of size n xs) i [] ≡ take size (drop (i * size) xs)
block_lies size zero xs i h = let no : ⊥ = omega arith in elim no [ ]
block_lies size (suc n) xs zero h = ap (λ k. take size (drop k xs)) (sym (zero-mul size))
block_lies size (suc n) xs (suc i) h =
    block_lies size n (drop size xs) i (omega arith)
    ∙ ap (take size) (drop-drop (i * size) size xs ∙ ap (λ k. drop k xs) (omega (arith, suc-mul i size)))

-- the bytes of the first i blocks and of block i are among those of n blocks
pub block_within : (size n i : ℕ) → i < n → i * size + size ≤ n * size
block_within size n i h = omega (arith, suc-mul i size, mul-le-mul_right {m = suc i} {n = n} size (omega arith))

-- each block has its full length where the run is long enough
pub length_block : (size n : ℕ) (xs : List ℕ) (i : ℕ) → i < n → n * size ≤ length xs → length (slice_index_or (blocks_of size n xs) i []) ≡ size
length_block size n xs i h l =
    ap length (block_lies size n xs i h) ∙ simp (length-take, length-drop) (omega (arith, block_within size n i h))

-- a change that ends before a place leaves what lies behind the place
drop_pasted : (size : ℕ) (xs : List ℕ) (at : ℕ) (u : List ℕ) (m : ℕ) → at + m ≤ size → size ≤ length xs → m ≤ length u → drop size (paste xs at u m) ≡ drop size xs
drop_pasted size xs at u m h l k =
    same_lists _ _ (simp length-drop (omega (arith, length-paste xs at u m (omega arith) k))) (λ j d _. grind (arith, places))

-- a change that ends before a place is that change of what lies before the place
take_pasted : (size : ℕ) (xs : List ℕ) (at : ℕ) (u : List ℕ) (m : ℕ) → at + m ≤ size → size ≤ length xs → m ≤ length u → take size (paste xs at u m) ≡ paste (take size xs) at u m
take_pasted size xs at u m h l k =
    same_lists _ _ (search (rules, places)) (λ j d _. grind (arith, places))

-- a change that begins behind a place leaves what lies before the place
take_before : (size : ℕ) (xs : List ℕ) (at : ℕ) (u : List ℕ) (m : ℕ) → size ≤ at → at + m ≤ length xs → m ≤ length u → take size (paste xs at u m) ≡ take size xs
take_before size xs at u m h l k =
    same_lists _ _ (search (rules, places)) (λ j d _. grind (arith, places))

-- a change that begins behind a place is that change of what lies behind the place
drop_before : (size : ℕ) (xs : List ℕ) (at : ℕ) (u : List ℕ) (m : ℕ) → size + at + m ≤ length xs → m ≤ length u → drop size (paste xs (size + at) u m) ≡ paste (drop size xs) at u m
drop_before size xs at u m l k =
    same_lists _ _ (search (rules, places)) (λ j d _. grind (arith, places))

-- a change of the run inside the bytes of block i is that change of block i, and of no other
pub blocks_pasted : (size n : ℕ) (xs : List ℕ) (i at : ℕ) (u : List ℕ) (m : ℕ) → i < n → at + m ≤ size → n * size ≤ length xs → m ≤ length u → blocks_of size n (paste xs (i * size + at) u m) ≡ slice_set (blocks_of size n xs) i (paste (take size (drop (i * size) xs)) at u m)
blocks_pasted size zero xs i at u m h w l k = let no : ⊥ = omega arith in elim no [ ]
blocks_pasted size (suc n) xs zero at u m h w l k =
    let long : size ≤ length xs = omega (arith, suc-mul n size) in
    rw (zero-mul size, zero-add at, take_pasted size xs at u m w long k, drop_pasted size xs at u m w long k)
blocks_pasted size (suc n) xs (suc i) at u m h w l k =
    let fits : i * size + size ≤ n * size = block_within size n i (omega arith) in
    let long : n * size + size ≤ length xs = omega (arith, suc-mul n size) in
    let place : suc i * size + at ≡ size + (i * size + at) = omega (arith, suc-mul i size) in
    let behind : drop (suc i * size) xs ≡ drop (i * size) (drop size xs) = ap (λ j. drop j xs) (omega (arith, suc-mul i size)) ∙ sym (drop-drop (i * size) size xs) in
    let first = take_before size xs (size + (i * size + at)) u m (omega arith) (omega arith) k in
    let rest = drop_before size xs (i * size + at) u m (omega arith) k in
    let later = blocks_pasted size n (drop size xs) i at u m (omega arith) w (simp length-drop (omega arith)) k in
    rw (place, behind, first, rest, later)

-- a whole block replaced in the run is that block replaced, and no other
pub block_replaced : (size n : ℕ) (xs : List ℕ) (i : ℕ) (u : List ℕ) → i < n → length u ≡ size → n * size ≤ length xs → blocks_of size n (paste xs (i * size) u size) ≡ slice_set (blocks_of size n xs) i u
block_replaced size n xs i u h e l =
    let within = block_within size n i h in
    let whole : paste (take size (drop (i * size) xs)) 0 u size ≡ u = same_lists _ _ (search (rules, places)) (λ j d _. grind (arith, places)) in
    ap (λ at. blocks_of size n (paste xs at u size)) (sym (add-zero (i * size))) ∙ blocks_pasted size n xs i 0 u size h (omega arith) l (omega arith) ∙ ap (set (blocks_of size n xs) i) whole

-- a run of one byte again and again has blocks of that byte
pub blocks_replicate : (size n v : ℕ) → blocks_of size n (replicate (n * size) v) ≡ replicate n (replicate size v)
blocks_replicate size zero v = refl
blocks_replicate size (suc n) v =
    let front : take size (replicate (suc n * size) v) ≡ replicate size v = take-replicate size (suc n * size) v (omega (arith, suc-mul n size)) in
    let rest : drop size (replicate (suc n * size) v) ≡ replicate (n * size) v = drop-replicate size (suc n * size) v ∙ ap (λ k. replicate k v) (omega (arith, suc-mul n size)) in
    rw (front, rest, blocks_replicate size n v)
