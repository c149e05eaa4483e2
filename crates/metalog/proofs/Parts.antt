-- The entries of a commit, one after the other, and its end behind them: together they are its encoding.
use Rattle.std.proofs.Common.{◌≡◌, ℕ, suc, ◌+◌, ◌<◌, ◌≤◌, Bool, true, false, cond, leb, List, [], ◌∷◌, ◌++◌, map, length, get_or, take, drop, Some, None, Ok, Err, Option, Result, sym, refl, ap, ◌∙◌, subst, ⊎_elim, append_assoc, append-nil, arith, length-append, take-append-drop}
use lib.Bits.{bit_xor}
use Rattle.std.specs.List.{AllByRecursion}
use Rattle.std.proofs.lemmas.List.{take_more, drop_more, take_at, take_all, drop_all, length-take-le, length-replicate, length-map, get_or-map, nil_from_length}
use Rattle.std.proofs.ByRecursion.{All-append}
use Rattle.std.proofs.lemmas.Bool.{leb-true, le-leb, lt-leb, cases_lt}
use Rattle.metalog.specs.declared.writer.Part.{Part}
use Rattle.metalog.specs.declared.writer.Unwritable.{Unwritable}
use Rattle.metalog.specs.declared.writer.Unwritable.TheVariants.{NoRoom}
use Rattle.metalog.specs.Tag.{be4, le4}
use Rattle.metalog.specs.Log.{first_prior}
use Rattle.metalog.specs.Commit.{Piece, Sound, tag_of, body, last_of, pad_of, end_bytes, encode}
use Rattle.metalog.specs.Writer.{Put, Begun, piece_of, put_refusal, end_refusal, or_else, write_refusal, Ends, Puts, Partly, Writes, WritesFirst}
use Rattle.metalog.proofs.Puts.{none, then, moved}

-- ---- entries behind entries

pub body_append : (prior : ℕ) (ps qs : List Piece) → body prior (ps ++ qs) ≡ body prior ps ++ body (last_of prior ps) qs
unfolding body
body_append prior [] qs = refl
body_append prior (p ∷ ps) qs =
    ap (λ l. be4 (bit_xor (tag_of p) prior) ++ l) (ap (λ l. p.bytes ++ l) (body_append (tag_of p) ps qs) ∙ sym (append_assoc p.bytes (body (tag_of p) ps) (body (last_of (tag_of p) ps) qs)))

body_one : (prior : ℕ) (p : Piece) → body prior (p ∷ []) ≡ be4 (bit_xor (tag_of p) prior) ++ p.bytes
unfolding body
body_one prior p = ap (λ l. be4 (bit_xor (tag_of p) prior) ++ l) (append-nil p.bytes)

last_push : (prior : ℕ) (ps : List Piece) (p : Piece) → last_of prior (ps ++ p ∷ []) ≡ tag_of p
last_push prior [] p = refl
last_push prior (q ∷ ps) p = last_push (tag_of q) ps p

-- all the entries ps are put, and only the end is wanting
abbrev pub AllPut : List ℕ → ℕ → ℕ → List Piece → List ℕ → ℕ → ℕ → Type 0
AllPut b used prior ps c used' prior' =
    (write_refusal used (length b) ps ≡ end_refusal used' (length b)) × AllByRecursion Sound ps
    × Put b c used (body prior ps) × (used' ≡ used + length (body prior ps)) × (prior' ≡ last_of prior ps)

-- one of the entries ps is refused, and those before it are put
abbrev pub Stuck : List ℕ → ℕ → ℕ → List Piece → Unwritable → List ℕ → Type 0
Stuck b used prior ps e c = (write_refusal used (length b) ps ≡ Some e) × Partly b c used (body prior ps)

-- k of the entries ps are put
pub record Sofar (b : List ℕ) (used prior : ℕ) (ps : List Piece) (k : ℕ) (c : List ℕ) (used' prior' : ℕ) : Type 0 where
  pub put : Put b c used (body prior (take k ps))
  pub used_is : used' ≡ used + length (body prior (take k ps))
  pub prior_is : prior' ≡ last_of prior (take k ps)
  pub sound : AllByRecursion Sound (take k ps)
  pub refusal : write_refusal used (length b) ps ≡ write_refusal used' (length b) (drop k ps)

pub put_none : (b : List ℕ) (used prior : ℕ) (ps : List Piece) → Sofar b used prior ps 0 b used prior
unfolding body
put_none b used prior ps = record { put = none b used; used_is = omega arith; prior_is = refl; sound = tt; refusal = refl }

module _ (b : List ℕ) (used prior : ℕ) (ps : List Piece) (k : ℕ) (c : List ℕ) (u p : ℕ) (s : Sofar b used prior ps k c u p) (d : Piece) (h : k < length ps) where
  x : Piece
  x = get_or ps k d

  -- what is wanting, by the next entry
  next_refusal : write_refusal used (length b) ps ≡ or_else (put_refusal u (length c) x.kind x.id (length x.bytes)) (write_refusal (u + (4 + length x.bytes)) (length b) (drop (k + 1) ps))
  unfolding x
  next_refusal =
      s.refusal ∙ ap (write_refusal u (length b)) (drop_more ps k d h)
      ∙ ap (λ n. or_else (put_refusal u n x.kind x.id (length x.bytes)) (write_refusal (u + (4 + length x.bytes)) (length b) (drop (k + 1) ps))) (sym s.put.long)

  pub put_more : {T : Type 0} (t : T) (e : List ℕ) (u1 p1 : ℕ) → Puts c u p (get_or ps k d) (Ok t) e u1 p1 → Sofar b used prior ps (k + 1) e u1 p1
  unfolding x
  put_more t e u1 p1 w =
      let front = take k ps in
      let more : take (k + 1) ps ≡ front ++ x ∷ [] = take_more ps k d h in
      let bytes : body prior (take (k + 1) ps) ≡ body prior front ++ (be4 (bit_xor (tag_of x) p) ++ x.bytes) =
      ap (body prior) more ∙ body_append prior front (x ∷ []) ∙ ap (λ l. body prior front ++ l) (body_one (last_of prior front) x ∙ ap (λ q. be4 (bit_xor (tag_of x) q) ++ x.bytes) (sym s.prior_is)) in
      let all : Put b e used (body prior front ++ (be4 (bit_xor (tag_of x) p) ++ x.bytes)) = then s.put (moved s.used_is refl w.2) in
      record {
        put = moved refl (sym bytes) all;
        used_is = omega (arith, w.3, s.used_is, ap length bytes, length-append (body prior front) (be4 (bit_xor (tag_of x) p) ++ x.bytes));
        prior_is = w.4 ∙ sym (ap (last_of prior) more ∙ last_push prior front x);
        sound = subst (AllByRecursion Sound) (sym more) (All-append Sound front (x ∷ []) s.sound (w.1, tt));
        refusal = next_refusal ∙ ap (λ o. or_else o (write_refusal (u + (4 + length x.bytes)) (length b) (drop (k + 1) ps))) w.0 ∙ ap (λ n. write_refusal n (length b) (drop (k + 1) ps)) (sym w.3);
      }

  pub put_stuck : (r : Unwritable) (e : List ℕ) (u1 p1 : ℕ) → Puts {T = Unit {0}} c u p (get_or ps k d) (Err r) e u1 p1 → Stuck b used prior ps r e
  unfolding x
  put_stuck r e u1 p1 w =
      let front = take k ps in
      let whole : body prior ps ≡ body prior front ++ body (last_of prior front) (drop k ps) = ap (body prior) (sym (take-append-drop k ps)) ∙ body_append prior front (drop k ps) in
      let n = length (body prior front) in
      let part : take n (body prior ps) ≡ body prior front = ap (take n) whole ∙ take_at (body prior front) (body (last_of prior front) (drop k ps)) n refl in (
        next_refusal ∙ ap (λ o. or_else o (write_refusal (u + (4 + length x.bytes)) (length b) (drop (k + 1) ps))) w.0,
        record { many = n; put = subst (λ l. Put b l used (take n (body prior ps))) (sym w.1) (moved refl (sym part) s.put) },
      )

pub put_end : (b : List ℕ) (used prior : ℕ) (ps : List Piece) (k : ℕ) (c : List ℕ) (u p : ℕ) → Sofar b used prior ps k c u p → length ps ≤ k → AllPut b used prior ps c u p
put_end b used prior ps k c u p s h =
    let all = take_all k ps h in (
      s.refusal ∙ ap (write_refusal u (length b)) (drop_all k ps h),
      subst (AllByRecursion Sound) all s.sound,
      moved refl (ap (body prior) all) s.put,
      s.used_is ∙ ap (λ l. used + length (body prior l)) all,
      s.prior_is ∙ ap (last_of prior) all,
    )

-- the same, of the code's own entries
module _ (b : List ℕ) (used prior : ℕ) (parts : List Part) (k : ℕ) (c : List ℕ) (u p : ℕ) (s : Sofar b used prior (map piece_of parts) k c u p) (d : Part) (h : k < length parts) where
  inside : k < length (map piece_of parts)
  inside = omega (arith, length-map parts piece_of)

  same : piece_of (get_or parts k d) ≡ get_or (map piece_of parts) k (piece_of d)
  same = sym (get_or-map piece_of parts k d (piece_of d) h)

  pub part_more : {T : Type 0} (t : T) (e : List ℕ) (u1 p1 : ℕ) → Puts c u p (piece_of (get_or parts k d)) (Ok t) e u1 p1 → Sofar b used prior (map piece_of parts) (k + 1) e u1 p1
  part_more t e u1 p1 w = put_more b used prior (map piece_of parts) k c u p s (piece_of d) inside t e u1 p1 (subst (λ x. Puts c u p x (Ok t) e u1 p1) same w)

  pub part_stuck : (r : Unwritable) (e : List ℕ) (u1 p1 : ℕ) → Puts {T = Unit {0}} c u p (piece_of (get_or parts k d)) (Err r) e u1 p1 → Stuck b used prior (map piece_of parts) r e
  part_stuck r e u1 p1 w = put_stuck b used prior (map piece_of parts) k c u p s (piece_of d) inside r e u1 p1 (subst (λ x. Puts {T = Unit {0}} c u p x (Err r) e u1 p1) same w)

-- ---- the end behind the entries

end_long : (front : List ℕ) (prior : ℕ) → length (end_bytes front prior) ≡ 8 + pad_of (length front)
unfolding end_bytes
end_long front prior = omega (arith, length-replicate {A = ℕ} (pad_of (length front)) 0xff)

-- the first bytes of a front are first bytes of the whole
partly_front : {b c : List ℕ} {i : ℕ} (xs ys zs : List ℕ) → zs ≡ xs ++ ys → Partly b c i xs → Partly b c i zs
partly_front {b} {c} {i} xs ys zs e p =
    let some = take p.many xs in
    let split : zs ≡ some ++ (drop p.many xs ++ ys) = e ∙ ap (λ l. l ++ ys) (sym (take-append-drop p.many xs)) ∙ append_assoc some (drop p.many xs) ys in
    record { many = length some; put = moved refl (sym (ap (take (length some)) split ∙ take_at some (drop p.many xs ++ ys) (length some) refl)) p.put }

-- all of a front
whole_front : {b c : List ℕ} {i : ℕ} (xs : List ℕ) → Put b c i xs → Partly b c i xs
whole_front xs p = record { many = length xs; put = moved refl (sym (take_all (length xs) xs (omega arith))) p }

room : (used long : ℕ) → end_refusal used long ≡ None → used + (8 + pad_of used) ≤ long
unfolding end_refusal
room used long e = go (leb (used + (8 + pad_of used)) long) refl e
  where
    go : (v : Bool) → leb (used + (8 + pad_of used)) long ≡ v → ◌≡◌ {A = Option Unwritable} (cond v None (Some NoRoom)) None → used + (8 + pad_of used) ≤ long
    go true h k = leb-true (used + (8 + pad_of used)) long h
    go false h k = let bad : ◌≡◌ {A = ℕ} 0 1 = cc in absurd (omega arith)

-- the end behind all entries, or the refusal of it
pub ended : (b : List ℕ) (used prior : ℕ) (ps : List Piece) (c : List ℕ) (u p : ℕ) (r : Result ℕ Unwritable) (d : List ℕ)
    → AllPut b used prior ps c u p → Ends c u p r d → Writes b used prior ps r d
unfolding encode
ended b used prior ps c u p (Ok end) d all_put w =
    let bs = body prior ps in
    let front : take u c ≡ take used b ++ bs = ap (λ n. take n c) all_put.3 ∙ all_put.2.front in
    let tail = end_bytes (take used b ++ bs) (last_of prior ps) in
    let same : end_bytes (take u c) p ≡ tail = ap (λ l. end_bytes l p) front ∙ ap (end_bytes (take used b ++ bs)) all_put.4 in
    let all : Put b d used (bs ++ tail) = then all_put.2 (moved all_put.3 same w.1) in
    let fits : u + (8 + pad_of u) ≤ length c = room u (length c) w.0 in
    let long : length (take used b ++ bs) ≡ u = ap length (sym front) ∙ length-take-le u c (omega (arith, fits)) in
    let tail_long : length tail ≡ 8 + pad_of u = end_long (take used b ++ bs) (last_of prior ps) ∙ ap (λ n. 8 + pad_of n) long in (
      all_put.0 ∙ ap (end_refusal u) (sym all_put.2.long) ∙ w.0,
      all_put.1,
      all,
      w.2 ∙ omega (arith, all_put.3, tail_long, length-append bs tail),
    )
ended b used prior ps c u p (Err e) d all_put w =
    let bs = body prior ps in (
      all_put.0 ∙ ap (end_refusal u) (sym all_put.2.long) ∙ w.0,
      partly_front bs (end_bytes (take used b ++ bs) (last_of prior ps)) (bs ++ end_bytes (take used b ++ bs) (last_of prior ps)) refl (whole_front bs (subst (λ l. Put b l used bs) (sym w.1) all_put.2)),
    )

-- an entry that was refused is the commit's refusal
pub stopped : (b : List ℕ) (used prior : ℕ) (ps : List Piece) (e : Unwritable) (c : List ℕ) → Stuck b used prior ps e c → Writes b used prior ps (Err e) c
unfolding encode
stopped b used prior ps e c w =
    let bs = body prior ps in
    (w.0, partly_front bs (end_bytes (take used b ++ bs) (last_of prior ps)) (bs ++ end_bytes (take used b ++ bs) (last_of prior ps)) refl w.1)

-- ---- the revision word before the first commit

cond_at_true : (v : Bool) (P Q : Type 0) → v ≡ true → cond v P Q → P
cond_at_true true P Q e x = x
cond_at_true false P Q e x = let bad : ◌≡◌ {A = ℕ} 0 1 = cc in absurd (omega arith)

cond_at_false : (v : Bool) (P Q : Type 0) → v ≡ false → cond v P Q → Q
cond_at_false true P Q e x = let bad : ◌≡◌ {A = ℕ} 0 1 = cc in absurd (omega arith)
cond_at_false false P Q e x = x

or_none : (x y : Option Unwritable) → or_else x y ≡ None → (x ≡ None) × (y ≡ None)
or_none None y e = (refl, e)
or_none (Some r) y e = let bad : ◌≡◌ {A = ℕ} 0 1 = cc in absurd (omega arith)

-- what is not refused has room for what is used already
refusal_room : (ps : List Piece) (used long : ℕ) → write_refusal used long ps ≡ None → used ≤ long
refusal_room [] used long e = omega (arith, room used long e)
refusal_room (p ∷ ps) used long e =
    let rest = (or_none (put_refusal used long p.kind p.id (length p.bytes)) (write_refusal (used + (4 + length p.bytes)) long ps) e).1 in
    omega (arith, refusal_room ps (used + (4 + length p.bytes)) long rest)

-- nothing can be put past the end of a buffer
put_past : (b d : List ℕ) (i : ℕ) (xs : List ℕ) → length b ≤ i → Put b d i xs → d ≡ b
put_past b d i xs h p =
    let all : d ≡ b ++ xs = sym (take_all (i + length xs) d (omega (arith, p.long))) ∙ p.front ∙ ap (λ l. l ++ xs) (take_all i b h) in
    let nil : xs ≡ [] = nil_from_length xs (omega (arith, ap length all, length-append b xs, p.long)) in
    all ∙ ap (λ l. b ++ l) nil ∙ append-nil b

-- a buffer with no room for the word
few : (b : List ℕ) (revision : ℕ) (ps : List Piece) (r : Result ℕ Unwritable) (d : List ℕ) → length b < 4 → Writes b 4 first_prior ps r d → WritesFirst b revision ps r d
few b revision ps (Ok end) d short w = absurd (omega (arith, refusal_room ps 4 (length b) w.0))
few b revision ps (Err e) d short w =
    let same : d ≡ b = put_past b d 4 (take w.1.many (encode (take 4 b) first_prior ps)) (omega arith) w.1.put in
    (w.0, record { many = 0; put = subst (λ l. Put b l 0 []) (sym same) (none b 0) })

-- a buffer with the word
enough : (b : List ℕ) (revision : ℕ) (c : List ℕ) (ps : List Piece) (r : Result ℕ Unwritable) (d : List ℕ) → Put b c 0 (le4 revision) → Writes c 4 first_prior ps r d → WritesFirst b revision ps r d
enough b revision c ps (Ok end) d g w =
    let xs = encode (le4 revision) first_prior ps in
    let same : encode (take 4 c) first_prior ps ≡ xs = ap (λ l. encode l first_prior ps) g.front in (
      ap (λ n. write_refusal 4 n ps) (sym g.long) ∙ w.0,
      w.1,
      then g (moved refl same w.2),
      w.3 ∙ ap (λ l. 4 + length l) same ∙ omega (arith, length-append (le4 revision) xs),
    )
enough b revision c ps (Err e) d g w =
    let xs = encode (le4 revision) first_prior ps in
    let same : encode (take 4 c) first_prior ps ≡ xs = ap (λ l. encode l first_prior ps) g.front in
    let n = w.1.many in
    let part : le4 revision ++ take n (encode (take 4 c) first_prior ps) ≡ take (suc (suc (suc (suc n)))) (le4 revision ++ xs) = ap (λ l. le4 revision ++ take n l) same in
    (ap (λ n. write_refusal 4 n ps) (sym g.long) ∙ w.0, record { many = suc (suc (suc (suc n))); put = moved refl part (then g w.1.put) })

pub first_concluded : (b : List ℕ) (revision : ℕ) (c : List ℕ) (ps : List Piece) (r : Result ℕ Unwritable) (d : List ℕ) → Begun b revision c → Writes c 4 first_prior ps r d → WritesFirst b revision ps r d
first_concluded b revision c ps r d g w =
    ⊎_elim
    (λ short. few b revision ps r d short (subst (λ l. Writes l 4 first_prior ps r d) (cond_at_false (leb 4 (length b)) (Put b c 0 (le4 revision)) (c ≡ b) (lt-leb 4 (length b) short) g) w))
    (λ long. enough b revision c ps r d (cond_at_true (leb 4 (length b)) (Put b c 0 (le4 revision)) (c ≡ b) (le-leb 4 (length b) long) g) w)
    (cases_lt (length b) 4)

-- what the buffer holds in the end, by another name
pub finally : (b : List ℕ) (used prior : ℕ) (ps : List Piece) (r : Result ℕ Unwritable) (d x : List ℕ) → Writes b used prior ps r d → x ≡ d → Writes b used prior ps r x
finally b used prior ps r d x w e = subst (Writes b used prior ps r) (sym e) w

pub finally_ended : (b : List ℕ) (used prior : ℕ) (r : Result ℕ Unwritable) (d x : List ℕ) → Ends b used prior r d → x ≡ d → Ends b used prior r x
finally_ended b used prior r d x w e = subst (Ends b used prior r) (sym e) w

-- a buffer and a state by other names
pub begun_as : (b c : List ℕ) (used used' prior prior' : ℕ) (ps : List Piece) (r : Result ℕ Unwritable) (d : List ℕ) → Writes b used prior ps r d → b ≡ c → used ≡ used' → prior ≡ prior' → Writes c used' prior' ps r d
begun_as b c used used' prior prior' ps r d w eb eu ep = subst (λ l. Writes l used' prior' ps r d) eb (subst (λ n. Writes b n prior' ps r d) eu (subst (λ n. Writes b used n ps r d) ep w))
