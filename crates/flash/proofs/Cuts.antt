-- The power went among the programs of a content: which unit it was, and what the block holds then.
-- The same for a block that is given a new content, where it may also have gone in the erase.
use Rattle.std.proofs.Common.{◌≡◌, ℕ, zero, suc, ◌+◌, ◌-◌, ◌*◌, ◌/◌, ◌<◌, ◌≤◌, List, [], ◌∷◌, ◌++◌, length, take, drop, replicate, None, refl, ap, ◌∙◌, subst, inl, inr, arith, length-drop, length-set, length-take}
use lib.ListN.{length-replicate}
use lib.Seq.{paste}
use Rattle.std.proofs.lemmas.List.{take-take, drop-drop, drop-replicate, take-append-drop, drop-take}
use Rattle.std.proofs.lemmas.List.Edits.{paste-paste}
use Rattle.flash.specs.Card.{Card, Shaped, bytes, put, darkened}
use Rattle.flash.specs.Write.{Write, program, erase, refusal, written, Torn}
use Rattle.flash.specs.History.{Histories}
use Rattle.flash.specs.Runs.{after, Accepted, Interrupted, units, programs, filled}
use Rattle.flash.specs.Contents.{rewrites}
use Rattle.flash.specs.Cuts.{CutUnits, CutBlock}
use Rattle.flash.proofs.Refusals.{MayProgram, may_program, may_erase}
use Rattle.flash.proofs.Units.{bytes_put, put_put, units_after}

-- a place among the programs of a content
pub record Place (b at n : ℕ) (content : List ℕ) (front : List Write) (w : Write) : Type 0 where
  pub k : ℕ
  pub below : k < n
  pub before : front ≡ units b at k content
  pub there : w ≡ program b (at + 16 * k) (take 16 (drop (16 * k) content))

zero_not_one : ◌≡◌ {A = ℕ} 0 1 → ⊥
zero_not_one h = omega arith

-- where the power went lies at such a place
pub units_place : (b at n : ℕ) (content : List ℕ) (front : List Write) (w : Write) (rest : List Write) → units b at n content ≡ front ++ w ∷ rest → Place b at n content front w
units_place b at zero content [] w rest e = let no : ◌≡◌ {A = ℕ} 0 1 = cc in elim (zero_not_one no) [ ]
units_place b at zero content (x ∷ front) w rest e = let no : ◌≡◌ {A = ℕ} 0 1 = cc in elim (zero_not_one no) [ ]
units_place b at (suc n) content [] w rest e =
    let z : at + 16 * 0 ≡ at = omega arith in
    record { k = 0; below = omega arith; before = refl; there = cc }
units_place b at (suc n) content (x ∷ front) w rest e =
    let same : units b (at + 16) n (drop 16 content) ≡ front ++ w ∷ rest = cc in
    let p = units_place b (at + 16) n (drop 16 content) front w rest same in
    let k : ℕ = p.k in
    let s : at + 16 + 16 * k ≡ at + 16 * suc k = omega arith in
    let q : 16 + 16 * k ≡ 16 * suc k = omega arith in
    let d = drop-drop (16 * k) 16 content in
    let before = p.before in
    let there = p.there in
    record { k = suc k; below = omega (arith, p.below); before = cc; there = cc }

-- the first k programs put only the first k units in
pub units_take : (b at k : ℕ) (content : List ℕ) → units b at k content ≡ units b at k (take (16 * k) content)
units_take b at zero content = refl
units_take b at (suc k) content =
    let q : 16 + 16 * k ≡ 16 * suc k = omega arith in
    let t : take 16 (take (16 * suc k) content) ≡ take 16 content = take-take 16 (16 * suc k) content (omega arith) in
    let d : drop 16 (take (16 + 16 * k) content) ≡ take (16 * k) (drop 16 content) = drop-take 16 (16 * k) content in
    let i = units_take b (at + 16) k (drop 16 content) in
    cc

-- the card after the first k programs
pub units_after_front : (c : Card) (b at k : ℕ) (content : List ℕ) → (b < length c.blocks → length (bytes c b) ≡ c.size) → 16 * k ≤ length content → Accepted c (units b at k content) → after c (units b at k content) ≡ put c b (paste (bytes c b) at content (16 * k))
units_after_front c b at k content long l h =
    let e = units_take b at k content in
    let t : take (16 * k) (take (16 * k) content) ≡ take (16 * k) content = take-take (16 * k) (16 * k) content (omega arith) in
    ap (after c) e ∙ units_after c b at k (take (16 * k) content) long (simp length-take (omega arith)) (subst (Accepted c) e h)
    ∙ ap (λ ys. put c b (take at (bytes c b) ++ ys ++ drop (at + 16 * k) (bytes c b))) t

-- one unit more in its place
one_more : (xs : List ℕ) (at k : ℕ) (content : List ℕ) → at ≤ length xs → 16 * k + 16 ≤ length content → paste (paste xs at content (16 * k)) (at + 16 * k) (take 16 (drop (16 * k) content)) 16 ≡ paste xs at content (16 * k + 16)
one_more xs at k content l h =
    let s : List ℕ = take (16 * k) content in
    let u : List ℕ = take 16 (drop (16 * k) content) in
    let ls : 16 * k ≡ length s = simp length-take (omega arith) in
    let lu : 16 ≡ length u = simp (length-take, length-drop) (omega arith) in
    let p = paste-paste xs at s u (16 * k) 16 ls lu l in
    let t : take (16 * k) s ≡ s = take-take (16 * k) (16 * k) content (omega arith) in
    let j : take (16 * k) (take (16 * k + 16) content) ++ drop (16 * k) (take (16 * k + 16) content) ≡ take (16 * k + 16) content = take-append-drop (16 * k) (take (16 * k + 16) content) in
    let a : take (16 * k) (take (16 * k + 16) content) ≡ s = take-take (16 * k) (16 * k + 16) content (omega arith) in
    let d : drop (16 * k) (take (16 * k + 16) content) ≡ u = drop-take (16 * k) 16 content in
    let joined : s ++ u ≡ take (16 * k + 16) content = cc in
    let again : take (16 * k + 16) (take (16 * k + 16) content) ≡ take (16 * k + 16) content = take-take (16 * k + 16) (16 * k + 16) content (omega arith) in
    cc

-- what the power left, where it went in the unit w behind the programs of `front`
pub cut_at : (c : Card) (b at n : ℕ) (content : List ℕ) (front : List Write) (w : Write) (rest : List Write) (d : Card) → (b < length c.blocks → length (bytes c b) ≡ c.size) → 16 * n ≤ length content → units b at n content ≡ front ++ w ∷ rest → Accepted c front → refusal (after c front) w ≡ None → Torn (after c front) w d → CutUnits c b at content d
cut_at c b at n content front w rest d long l e accepted may torn =
    let p = units_place b at n content front w rest e in
    let k : ℕ = p.k in
    let u : List ℕ = take 16 (drop (16 * k) content) in
    let now : List ℕ = paste (bytes c b) at content (16 * k) in
    let below = p.below in
    let is : after c front ≡ put c b now = ap (after c) p.before ∙ units_after_front c b at k content long (omega arith) (subst (Accepted c) p.before accepted) in
    let may' : refusal (put c b now) (program b (at + 16 * k) u) ≡ None = subst (λ x. refusal x (program b (at + 16 * k) u) ≡ None) is (subst (λ x. refusal (after c front) x ≡ None) p.there may) in
    let torn' : Torn (put c b now) (program b (at + 16 * k) u) d = subst (λ x. Torn x (program b (at + 16 * k) u) d) is (subst (λ x. Torn (after c front) x d) p.there torn) in
    let m : MayProgram (put c b now) b (at + 16 * k) (length u) = may_program (put c b now) b (at + 16 * k) u may' in
    let in' : b < length c.blocks = rw length-set at m.block in
    let bs : bytes (put c b now) b ≡ now = bytes_put c b now in' in
    let next : paste now (at + 16 * k) u 16 ≡ paste (bytes c b) at content (16 * k + 16) = one_more (bytes c b) at k content (omega (arith, long in', m.inside)) (omega arith) in
    record {
      units = k;
      more = omega arith;
      left = torn'.left;
      mixed = rw (bs, next) at torn'.mixed;
      is = torn'.is ∙ ap darkened (put_put c b now torn'.left);
    }

-- the power went among the programs of a content
pub cut_units : {c d : Card} {b at : ℕ} {content : List ℕ} {N₀ N₁ : Histories} → Shaped c → Interrupted (programs b at content) c d N₀ N₁ → CutUnits c b at content d
cut_units {c} {d} {b} {at} {content} s q = cut_at c b at (length content / 16) content q.front q.w q.rest d (s.long b) (omega arith) q.splits q.accepted q.may q.torn

-- the first units over an erased block
filled_front : (c : Card) (b k : ℕ) (content : List ℕ) → b < length c.blocks → 16 * k ≤ length content → paste (bytes (written c (erase b)) b) 0 content (16 * k) ≡ filled c (take (16 * k) content)
filled_front c b k content l h =
    let blank : List ℕ = replicate c.size 0xff in
    let is : bytes (put c b blank) b ≡ blank = bytes_put c b blank l in
    let n : length (take (16 * k) content) ≡ 16 * k = simp length-take (omega arith) in
    let z : 0 + 16 * k ≡ 16 * k = omega arith in
    let d : drop (16 * k) blank ≡ replicate (c.size - 16 * k) 0xff = drop-replicate (16 * k) c.size 0xff in
    cc

-- a unit that was cut behind an erase
behind_erase : (c : Card) (b : ℕ) (content : List ℕ) (d : Card) → b < length c.blocks → CutUnits (written c (erase b)) b 0 content d → CutBlock c b content d
behind_erase c b content d l u =
    let k : ℕ = u.units in
    let more = u.more in
    let n : 16 * suc k ≡ 16 * k + 16 = omega arith in
    let was = filled_front c b k content l (omega arith) in
    let next : paste (bytes (written c (erase b)) b) 0 content (16 * k + 16) ≡ filled c (take (16 * k + 16) content) = rw n at (filled_front c b (suc k) content l (omega arith)) in
    record {
      left = u.left;
      mixed = inr (k, more, rw (was, next) at u.mixed);
      is = u.is ∙ ap darkened (put_put c b (replicate c.size 0xff) u.left);
    }

-- the power went among the writes that give a block a new content
cut_among : (c : Card) (b : ℕ) (content : List ℕ) (front : List Write) (w : Write) (rest : List Write) (d : Card) → rewrites b content ≡ front ++ w ∷ rest → Accepted c front → refusal (after c front) w ≡ None → Torn (after c front) w d → CutBlock c b content d
cut_among c b content [] w rest d e accepted may torn =
    let first : w ≡ erase b = cc in
    let t : Torn c (erase b) d = subst (λ x. Torn c x d) first torn in
    record { left = t.left; mixed = inl t.mixed; is = t.is }
cut_among c b content (x ∷ front) w rest d e accepted may torn =
    let first : x ≡ erase b = cc in
    let others : programs b 0 content ≡ front ++ w ∷ rest = cc in
    let blank : List ℕ = replicate c.size 0xff in
    let l : b < length c.blocks = (may_erase c b (subst (λ v. refusal c v ≡ None) first accepted.0)).block in
    let long : length (bytes (put c b blank) b) ≡ c.size = ap length (bytes_put c b blank l) ∙ length-replicate c.size 0xff in
    behind_erase c b content d l
    (cut_at (written c (erase b)) b 0 (length content / 16) content front w rest d (λ _. long) (omega arith) others (subst (λ v. Accepted (written c v) front) first accepted.1) (subst (λ v. refusal (after (written c v) front) w ≡ None) first may) (subst (λ v. Torn (after (written c v) front) w d) first torn))

pub cut_block : {c d : Card} {b : ℕ} {content : List ℕ} {N₀ N₁ : Histories} → Interrupted (rewrites b content) c d N₀ N₁ → CutBlock c b content d
cut_block {c} {d} {b} {content} q = cut_among c b content q.front q.w q.rest d q.splits q.accepted q.may q.torn
