-- Cursors from which no commit is finished any more, or exactly one.
use Rattle.std.proofs.Common.{◌≡◌, ℕ, zero, suc, ◌+◌, ◌-◌, ◌*◌, ◌/◌, ◌%◌, ◌^◌, ◌<◌, ◌≤◌, Bool, true, false, cond, eqb, ◌⊎◌, List, [], ◌∷◌, ◌++◌, length, drop, replicate, Some, sym, refl, ap, ◌∙◌, subst, inl, inr, append_assoc, append-nil, arith}
use lib.Bits.{bit_xor, xor_shr, xor_mod}
use Rattle.std.proofs.lemmas.List.{length-drop, length-replicate, drop-drop, drop-replicate}
use Rattle.std.proofs.lemmas.Bool.{cond-true, cond-false, eqb-true}
use Rattle.metalog.specs.Crc.{crc_of}
use Rattle.metalog.specs.Tag.{type_of, length_of, ends_commit, next_prior}
use Rattle.metalog.specs.Log.{Entry, End, Item, held, ended, Cursor, at, Step, part, past, seed, halt, holding, tag_at, entry_at, end_at, step, items, commits_of}
use Rattle.metalog.proofs.Turns.{items_some, items_none}
use Rattle.metalog.proofs.Words.{erased_word, erased_tag, high}
use Rattle.metalog.proofs.Views.{View, stops, holds, ends, view, found, step_none}

-- from here on no commit is finished
pub record Quiet (b : List ℕ) (c : Cursor) : Type 0 where
  pub none : (f : ℕ) (begun : List Entry) → commits_of begun (items f b c) ≡ []

-- from here on, which is the place i, the commit is finished by the entries es, and no other one is
pub record Single (b : List ℕ) (c : Cursor) (i : ℕ) (es : List Entry) : Type 0 where
  pub one : (f : ℕ) (begun : List Entry) → length b ≤ f + i → commits_of begun (items f b c) ≡ (begun ++ es) ∷ []

-- what reading from here on may come to: no commit, or one with these entries
abbrev pub AtMost : List ℕ → Cursor → ℕ → List Entry → Type 0
AtMost b c i es = Quiet b c ⊎ Single b c i es

pub quiet_halt : (b : List ℕ) (c : Cursor) → step b c ≡ halt → Quiet b c
quiet_halt b c e = record { none = λ f begun. ap (commits_of begun) (items_none f b c (ap (λ (s : Step). s.item) e)) }

-- the items of one step and the rest
unroll : (f : ℕ) (b : List ℕ) (c d : Cursor) (x : Item) → step b c ≡ record { item = Some x; next = d } → items (suc f) b c ≡ x ∷ items f b d
unroll f b c d x e = items_some f b c x (ap (λ (s : Step). s.item) e) ∙ ap (λ k. x ∷ items f b k) (ap (λ (s : Step). s.next) e)

pub quiet_held : (b : List ℕ) (c d : Cursor) (x : Entry) → step b c ≡ record { item = Some (held x); next = d } → Quiet b d → Quiet b c
unfolding items
quiet_held b c d x e q = record { none = go }
  where
    go : (f : ℕ) (begun : List Entry) → commits_of begun (items f b c) ≡ []
    go zero begun = refl
    go (suc f) begun = ap (commits_of begun) (unroll f b c d (held x) e) ∙ q.none f (begun ++ x ∷ [])

pub single_held : (b : List ℕ) (c d : Cursor) (i j : ℕ) (x : Entry) (es : List Entry) → step b c ≡ record { item = Some (held x); next = d } → i < j → i < length b → Single b d j es → Single b c i (x ∷ es)
single_held b c d i j x es e less inside q = record { one = go }
  where
    go : (f : ℕ) (begun : List Entry) → length b ≤ f + i → commits_of begun (items f b c) ≡ (begun ++ (x ∷ es)) ∷ []
    go zero begun h = absurd (omega arith)
    go (suc f) begun h = ap (commits_of begun) (unroll f b c d (held x) e) ∙ q.one f (begun ++ x ∷ []) (omega arith) ∙ ap (λ l. l ∷ []) (append_assoc begun (x ∷ []) es)

pub single_ended : (b : List ℕ) (c d : Cursor) (i : ℕ) (x : End) → step b c ≡ record { item = Some (ended x); next = d } → i < length b → Quiet b d → Single b c i []
single_ended b c d i x e inside q = record { one = go }
  where
    go : (f : ℕ) (begun : List Entry) → length b ≤ f + i → commits_of begun (items f b c) ≡ (begun ++ []) ∷ []
    go zero begun h = absurd (omega arith)
    go (suc f) begun h = ap (commits_of begun) (unroll f b c d (ended x) e) ∙ ap (λ l. begun ∷ l) (q.none f []) ∙ ap (λ l. l ∷ []) (sym (append-nil begun))

-- ---- erased bytes

-- over erased bytes the tag behind `prior` ends no commit
abbrev pub Calm : ℕ → Type 0
Calm prior = bit_xor 0xffffffff prior < 2 ^ 31 → ends_commit (bit_xor 0xffffffff prior) ≡ false

pub contrary : (v : Bool) → v ≡ true → v ≡ false → ⊥
contrary v t f = let bad : ◌≡◌ {A = ℕ} 0 1 = cc in omega arith

-- behind a valid tag there is no tag at all
pub calm_valid : (prior : ℕ) → prior < 2 ^ 31 → Calm prior
calm_valid prior h low = absurd (omega (arith, high prior h))

pub type_ends : (t : ℕ) → ends_commit t ≡ true → (type_of t ≡ 0x500) ⊎ (type_of t ≡ 0x501)
type_ends t e = go (eqb (type_of t) 0x500) refl e
  where
    go : (v : Bool) → eqb (type_of t) 0x500 ≡ v → cond v true (eqb (type_of t) 0x501) ≡ true → (type_of t ≡ 0x500) ⊎ (type_of t ≡ 0x501)
    go true h k = inl (eqb-true (type_of t) 0x500 h)
    go false h k = inr (eqb-true (type_of t) 0x501 k)

type_flips : (p : ℕ) → type_of (bit_xor 0xffffffff p) ≡ bit_xor 0x7ff (type_of p)
type_flips p = ap (λ x. x % 2 ^ 11) (xor_shr 0xffffffff p 20) ∙ xor_mod (0xffffffff / 2 ^ 20) (p / 2 ^ 20) 11

type_next : (t : ℕ) → type_of (t % 2 ^ 31 + type_of t % 2 * 2 ^ 31) ≡ type_of t
type_next t = omega arith

-- behind the end of a commit there may be one, and it ends no commit
pub calm_next : (t : ℕ) → ends_commit t ≡ true → Calm (next_prior t)
calm_next t e low =
    let p = t % 2 ^ 31 + type_of t % 2 * 2 ^ 31 in
    let is : next_prior t ≡ p = cond-true (ends_commit t) p t e in
    let kind : (k : ℕ) → type_of t ≡ k → type_of (bit_xor 0xffffffff (next_prior t)) ≡ bit_xor 0x7ff k = λ k h. ap (λ x. type_of (bit_xor 0xffffffff x)) is ∙ type_flips p ∙ ap (bit_xor 0x7ff) (type_next t ∙ h) in
    let by : (k : ℕ) → type_of (bit_xor 0xffffffff (next_prior t)) ≡ k → ends_commit (bit_xor 0xffffffff (next_prior t)) ≡ cond (eqb k 0x500) true (eqb k 0x501) = λ k h. ap (λ x. cond (eqb x 0x500) true (eqb x 0x501)) h in
    elim (type_ends t e) [ inl h ↦ by 0x2ff (kind 0x500 h) | inr h ↦ by 0x2fe (kind 0x501 h) ]

plain_prior : (t : ℕ) → ends_commit t ≡ false → next_prior t ≡ t
plain_prior t e = cond-false (ends_commit t) (t % 2 ^ 31 + type_of t % 2 * 2 ^ 31) t e

-- behind a valid tag, erased bytes are no tag
pub quiet_behind : (b : List ℕ) (i k prior sum : ℕ) → drop i b ≡ replicate k 0xff → prior < 2 ^ 31 → Quiet b (at i prior sum)
quiet_behind b i k prior sum e h = quiet_halt b (at i prior sum) (step_none b i prior sum (erased_tag b i k prior e h))

-- a tag inside a commit, with only erased bytes behind its data
quiet_last : (b : List ℕ) (i prior sum t k : ℕ) → tag_at b i prior ≡ Some t → ends_commit t ≡ false → step b (at i prior sum) ≡ holding b i sum t → drop (past i t) b ≡ replicate k 0xff → Quiet b (at i prior sum)
quiet_last b i prior sum t k f plain eq e =
    let low : next_prior t < 2 ^ 31 = rw (plain_prior t plain) (found b i prior t f).valid in
    quiet_held b (at i prior sum) (holding b i sum t).next (entry_at b i t) eq (quiet_behind b (past i t) k (next_prior t) (crc_of sum (part b i (4 + length_of t))) e low)

-- the rest of erased bytes is erased
pub erased_further : (b : List ℕ) (i j k : ℕ) → i ≤ j → drop i b ≡ replicate k 0xff → drop j b ≡ replicate (k - (j - i)) 0xff
erased_further b i j k h e =
    let step : j ≡ i + (j - i) = omega arith in
    ap (λ n. drop n b) step ∙ sym (drop-drop (j - i) i b) ∙ ap (drop (j - i)) e ∙ drop-replicate (j - i) k 0xff

pub quiet_erased : (b : List ℕ) (i k prior sum : ℕ) → drop i b ≡ replicate k 0xff → Calm prior → Quiet b (at i prior sum)
quiet_erased b i k prior sum e calm = go (view b i prior sum)
  where
    go : View b i prior sum → Quiet b (at i prior sum)
    go (stops eq) = quiet_halt b (at i prior sum) eq
    go (holds t f plain eq) = quiet_last b i prior sum t (k - (past i t - i)) f plain eq (erased_further b i (past i t) k (omega arith) e)
    go (ends t f last right eq) =
        let there = found b i prior t f in
        let four : 4 ≤ k = omega (arith, there.fits, length-drop i b, ap length e, length-replicate {A = ℕ} k 0xff) in
        let is : bit_xor 0xffffffff prior ≡ t = ap (λ w. bit_xor w prior) (sym (erased_word b i k e four)) ∙ there.is in
        absurd (contrary (ends_commit t) last (subst (λ x. ends_commit x ≡ false) is (calm (subst (λ x. x < 2 ^ 31) (sym is) there.valid))))

-- ---- the last tag that is there, with only erased bytes behind its data

pub record LastTag (b : List ℕ) (i prior : ℕ) : Type 0 where
  pub behind : (t : ℕ) → tag_at b i prior ≡ Some t → (k : ℕ) × (drop (past i t) b ≡ replicate k 0xff)

-- it belongs to the commit: the commit is not finished
pub quiet_plain : (b : List ℕ) (i prior sum : ℕ) → LastTag b i prior → ((t : ℕ) → tag_at b i prior ≡ Some t → ends_commit t ≡ false) → Quiet b (at i prior sum)
quiet_plain b i prior sum l plain = go (view b i prior sum)
  where
    go : View b i prior sum → Quiet b (at i prior sum)
    go (stops eq) = quiet_halt b (at i prior sum) eq
    go (holds t f p eq) = let h = l.behind t f in quiet_last b i prior sum t h.0 f p eq h.1
    go (ends t f last right eq) = absurd (contrary (ends_commit t) last (plain t f))

-- whatever it is: the commit is finished with what was read before, or not at all
pub last_tag : (b : List ℕ) (i prior sum : ℕ) → LastTag b i prior → AtMost b (at i prior sum) i []
last_tag b i prior sum l = go (view b i prior sum)
  where
    go : View b i prior sum → AtMost b (at i prior sum) i []
    go (stops eq) = inl (quiet_halt b (at i prior sum) eq)
    go (holds t f p eq) = let h = l.behind t f in inl (quiet_last b i prior sum t h.0 f p eq h.1)
    go (ends t f last right eq) =
        let h = l.behind t f in
        let fits = (found b i prior t f).fits in
        inr (single_ended b (at i prior sum) (at (past i t) (next_prior t) seed) i (end_at i t) eq (omega (arith, fits)) (quiet_erased b (past i t) h.0 (next_prior t) seed h.1 (calm_next t last)))
