-- A reading as a path from cursor to cursor: how far it goes, what it gives, and that a block with the same front has it too.
use Rattle.std.proofs.Common.{◌≡◌, ℕ, zero, suc, ◌+◌, ◌*◌, ◌%◌, ◌^◌, ◌<◌, ◌≤◌, ◌⊎◌, List, [], ◌∷◌, ◌++◌, length, Some, None, Option, sym, refl, ap, ◌∙◌, subst, inl, inr, suc-add, zero-add, arith}
use Rattle.std.proofs.lemmas.Bool.{cond_both}
use Rattle.metalog.specs.Crc.{crc_of}
use Rattle.metalog.specs.Tag.{type_of, length_of, ends_commit, next_prior}
use Rattle.metalog.specs.Log.{Entry, Item, held, ended, Cursor, at, nowhere, Step, End, part, past, seed, halt, holding, entry_at, end_at, step, items, commits_of, end_from}
use Rattle.metalog.proofs.Turns.{items_some, items_none}
use Rattle.metalog.proofs.Views.{View, stops, holds, ends, view, closed, found, step_holds, step_ends, Same, same_tag, same_closes, same_holding}

-- reading from one cursor gives the items and comes to the other cursor
abbrev pub Path : List ℕ → Cursor → List Item → Cursor → Type 0
Path b c [] d = c ≡ d
Path b c (x ∷ xs) d = ((step b c).item ≡ Some x) × Path b (step b c).next xs d

pub path_join : (b : List ℕ) (c : Cursor) (xs : List Item) (d : Cursor) (ys : List Item) (e : Cursor) → Path b c xs d → Path b d ys e → Path b c (xs ++ ys) e
path_join b c [] d ys e p q = subst (λ k. Path b k ys e) (sym p) q
path_join b c (x ∷ xs) d ys e p q = (p.0, path_join b (step b c).next xs d ys e p.1 q)

pub path_items : (f : ℕ) (b : List ℕ) (c : Cursor) (xs : List Item) (d : Cursor) → Path b c xs d → items (length xs + f) b c ≡ xs ++ items f b d
path_items f b c [] d p = ap (λ n. items n b c) (zero-add f) ∙ ap (items f b) p
path_items f b c (x ∷ xs) d p =
    ap (λ n. items n b c) (suc-add (length xs) f) ∙ items_some (length xs + f) b c x p.0 ∙ ap (λ l. x ∷ l) (path_items f b (step b c).next xs d p.1)

-- nothing is read from nowhere, and nothing where a step halts
no_item : (b : List ℕ) (c : Cursor) (x : Item) → step b c ≡ halt → (step b c).item ≡ Some x → ⊥
no_item b c x e h =
    let same : ◌≡◌ {A = Option Item} None (Some x) = sym (ap (λ (s : Step). s.item) e) ∙ h in
    let bad : ◌≡◌ {A = ℕ} 0 1 = cc in
    omega arith

pub nowhere_halts : (b : List ℕ) → step b nowhere ≡ halt
unfolding step
nowhere_halts b = refl

-- each item takes the reading on by four bytes at least
pub path_far : (b : List ℕ) (xs : List Item) (i prior sum e p s : ℕ) → Path b (at i prior sum) xs (at e p s) → i + length xs ≤ e
path_far b [] i prior sum e p s h = let same : i ≡ e = cc in omega arith
path_far b (x ∷ xs) i prior sum e p s h = go (λ j q r k. path_far b xs j q r e p s k) (view b i prior sum)
  where
    go : ((j q r : ℕ) → Path b (at j q r) xs (at e p s) → j + length xs ≤ e) → View b i prior sum → i + length (x ∷ xs) ≤ e
    go rest (stops eq) = absurd (no_item b (at i prior sum) x eq h.0)
    go rest (holds t f plain eq) =
        let further = rest (past i t) (next_prior t) (crc_of sum (part b i (4 + length_of t))) (subst (λ (k : Step). Path b k.next xs (at e p s)) eq h.1) in
        omega (arith, further)
    go rest (ends t f last right eq) =
        let further = rest (past i t) (next_prior t) seed (subst (λ (k : Step). Path b k.next xs (at e p s)) eq h.1) in
        omega (arith, further)

-- and never past the block
pub path_inside : (b : List ℕ) (xs : List Item) (i prior sum e p s : ℕ) → i ≤ length b → Path b (at i prior sum) xs (at e p s) → e ≤ length b
path_inside b [] i prior sum e p s l h = let same : i ≡ e = cc in omega arith
path_inside b (x ∷ xs) i prior sum e p s l h = go (λ j q r l k. path_inside b xs j q r e p s l k) (view b i prior sum)
  where
    go : ((j q r : ℕ) → j ≤ length b → Path b (at j q r) xs (at e p s) → e ≤ length b) → View b i prior sum → e ≤ length b
    go rest (stops eq) = absurd (no_item b (at i prior sum) x eq h.0)
    go rest (holds t f plain eq) =
        rest (past i t) (next_prior t) (crc_of sum (part b i (4 + length_of t))) (found b i prior t f).fits (subst (λ (k : Step). Path b k.next xs (at e p s)) eq h.1)
    go rest (ends t f last right eq) = rest (past i t) (next_prior t) seed (found b i prior t f).fits (subst (λ (k : Step). Path b k.next xs (at e p s)) eq h.1)

-- a block with the same first e bytes has the same path to e
pub path_same : (b c : List ℕ) (e : ℕ) → Same e b c → (xs : List Item) (k : Cursor) (p s : ℕ) → Path b k xs (at e p s) → Path c k xs (at e p s)
path_same b c e same [] k p s h = h
path_same b c e same (x ∷ xs) nowhere p s h = absurd (no_item b nowhere x (nowhere_halts b) h.0)
path_same b c e same (x ∷ xs) (at i prior sum) p s h = go (path_same b c e same xs (step b (at i prior sum)).next p s h.1) (view b i prior sum)
  where
    -- the step is the same, and so is what follows
    on : Path c (step b (at i prior sum)).next xs (at e p s) → (n : Step) → step b (at i prior sum) ≡ n → step c (at i prior sum) ≡ n → Path c (at i prior sum) (x ∷ xs) (at e p s)
    on rest n eb ec = (
      ap (λ (k : Step). k.item) (ec ∙ sym eb) ∙ h.0,
      subst (λ (k : Step). Path c k.next xs (at e p s)) (eb ∙ sym ec) rest,
    )

    go : Path c (step b (at i prior sum)).next xs (at e p s) → View b i prior sum → Path c (at i prior sum) (x ∷ xs) (at e p s)
    go rest (stops eq) = absurd (no_item b (at i prior sum) x eq h.0)
    go rest (holds t f plain eq) =
        let far = path_far b xs (past i t) (next_prior t) (crc_of sum (part b i (4 + length_of t))) e p s (subst (λ (k : Step). Path b k.next xs (at e p s)) eq h.1) in
        let fits : past i t ≤ e = omega (arith, far) in
        on rest (holding b i sum t) eq (step_holds c i prior sum t (same_tag e b c same i prior t fits f) plain ∙ sym (same_holding e b c same i sum t fits))
    go rest (ends t f last right eq) =
        let far = path_far b xs (past i t) (next_prior t) seed e p s (subst (λ (k : Step). Path b k.next xs (at e p s)) eq h.1) in
        let fits : past i t ≤ e = omega (arith, far) in
        on rest (closed i t) eq (step_ends c i prior sum t (same_tag e b c same i prior t fits f) last (same_closes e b c same i sum t fits right))

-- ---- the finished commits

-- the tags behind the last finished commit, of which `begun` were read already
abbrev pub unfinished : List Entry → List Item → List Entry
unfinished begun [] = begun
unfinished begun (held e ∷ xs) = unfinished (begun ++ e ∷ []) xs
unfinished begun (ended e ∷ xs) = unfinished [] xs

pub commits_join : (begun : List Entry) (xs ys : List Item) → commits_of begun (xs ++ ys) ≡ commits_of begun xs ++ commits_of (unfinished begun xs) ys
commits_join begun [] ys = refl
commits_join begun (held e ∷ xs) ys = commits_join (begun ++ e ∷ []) xs ys
commits_join begun (ended e ∷ xs) ys = ap (λ l. begun ∷ l) (commits_join [] xs ys)

-- no commit is finished in the items
pub record Unfinished (xs : List Item) : Type 0 where
  pub none : (begun : List Entry) → commits_of begun xs ≡ []
  pub end : (e : End) → end_from e xs ≡ e

-- the items have a last finished commit, and the path to its end gives all finished commits
pub record Finished (b : List ℕ) (c : Cursor) (xs : List Item) : Type 0 where
  pub front : List Item
  pub last : End
  pub path : Path b c front (at last.offset last.prior seed)
  pub low : last.prior < 2 ^ 32
  pub nothing : (begun : List Entry) → unfinished begun front ≡ []
  pub same : (begun : List Entry) → commits_of begun front ≡ commits_of begun xs
  pub end : (e : End) → end_from e xs ≡ last

-- one more tag in front
before_held : (b : List ℕ) (c : Cursor) (x : Entry) (ys : List Item) → (step b c).item ≡ Some (held x) → Unfinished ys ⊎ Finished b (step b c).next ys → Unfinished (held x ∷ ys) ⊎ Finished b c (held x ∷ ys)
before_held b c x ys e (inl u) = inl (record { none = λ begun. u.none (begun ++ x ∷ []); end = u.end })
before_held b c x ys e (inr k) = inr (record {
  front = held x ∷ k.front;
  last = k.last;
  path = (e, k.path);
  low = k.low;
  nothing = λ begun. k.nothing (begun ++ x ∷ []);
  same = λ begun. k.same (begun ++ x ∷ []);
  end = k.end;
})

-- one more end of a commit in front
before_ended : (b : List ℕ) (c : Cursor) (x : End) (ys : List Item) → step b c ≡ record { item = Some (ended x); next = at x.offset x.prior seed } → x.prior < 2 ^ 32 → Unfinished ys ⊎ Finished b (step b c).next ys → Finished b c (ended x ∷ ys)
before_ended b c x ys e h (inl u) = record {
  front = ended x ∷ [];
  last = x;
  path = (ap (λ (s : Step). s.item) e, ap (λ (s : Step). s.next) e);
  low = h;
  nothing = λ begun. refl;
  same = λ begun. ap (λ l. begun ∷ l) (sym (u.none []));
  end = λ w. u.end x;
}
before_ended b c x ys e h (inr k) = record {
  front = ended x ∷ k.front;
  last = k.last;
  path = (ap (λ (s : Step). s.item) e, k.path);
  low = k.low;
  nothing = λ begun. k.nothing [];
  same = λ begun. ap (λ l. begun ∷ l) (k.same []);
  end = λ w. k.end x;
}

none_read : (b : List ℕ) (c : Cursor) (f : ℕ) → step b c ≡ halt → Unfinished (items f b c)
none_read b c f e = subst Unfinished (sym (items_none f b c (ap (λ (s : Step). s.item) e))) (record { none = λ begun. refl; end = λ w. refl })

next_low : (t : ℕ) → t < 2 ^ 31 → next_prior t < 2 ^ 32
next_low t h = cond_both (ends_commit t) (t % 2 ^ 31 + type_of t % 2 * 2 ^ 31) t (λ x. x < 2 ^ 32) (λ _. omega arith) (λ _. omega arith)

-- whatever is read, there is a last finished commit, or none
pub tail : (f : ℕ) (b : List ℕ) (c : Cursor) → Unfinished (items f b c) ⊎ Finished b c (items f b c)
unfolding items
tail zero b c = inl (record { none = λ begun. refl; end = λ e. refl })
tail (suc f) b nowhere = inl (none_read b nowhere (suc f) (nowhere_halts b))
tail (suc f) b (at i prior sum) = go (tail f b (step b (at i prior sum)).next) (view b i prior sum)
  where
    go : Unfinished (items f b (step b (at i prior sum)).next) ⊎ Finished b (step b (at i prior sum)).next (items f b (step b (at i prior sum)).next) → View b i prior sum → Unfinished (items (suc f) b (at i prior sum)) ⊎ Finished b (at i prior sum) (items (suc f) b (at i prior sum))
    go rest (stops eq) = inl (none_read b (at i prior sum) (suc f) eq)
    go rest (holds t g plain eq) =
        let item : (step b (at i prior sum)).item ≡ Some (held (entry_at b i t)) = ap (λ (s : Step). s.item) eq in
        subst (λ xs. Unfinished xs ⊎ Finished b (at i prior sum) xs) (sym (items_some f b (at i prior sum) (held (entry_at b i t)) item))
        (before_held b (at i prior sum) (entry_at b i t) (items f b (step b (at i prior sum)).next) item rest)
    go rest (ends t g last right eq) =
        let item : (step b (at i prior sum)).item ≡ Some (ended (end_at i t)) = ap (λ (s : Step). s.item) eq in
        inr (subst (Finished b (at i prior sum)) (sym (items_some f b (at i prior sum) (ended (end_at i t)) item))
        (before_ended b (at i prior sum) (end_at i t) (items f b (step b (at i prior sum)).next) eq (next_low t (found b i prior t g).valid) rest))
