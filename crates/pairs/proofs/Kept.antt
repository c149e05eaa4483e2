-- What a reader of pairs answers of what it holds.
use Rattle.std.proofs.Common.{◌≡◌, ℕ, ◌+◌, ◌-◌, ◌<◌, ◌≤◌, min, List, [], ◌∷◌, ◌++◌, map, length, get_or, take, drop, Some, None, Option, sym, refl, ap, ◌∙◌, ⊎_elim, arith, length-drop, length-take}
use Rattle.std.specs.List.{sum_by}
use Rattle.std.specs.Option.{option_map}
use Rattle.std.proofs.lemmas.List.{take_all, drop_all, map_more}
use Rattle.std.proofs.lemmas.List.Sums.{sum_by-cons}
use Rattle.std.proofs.lemmas.Bool.{cases_lt}
use Rattle.metalog.specs.Log.{part}
use Rattle.volume.specs.State.{Slot, name_long, content_long, size_of}
use Rattle.pairs.specs.declared.entry.Entry.{Entry}
use Rattle.pairs.specs.declared.entry.Name.{Name}
use Rattle.pairs.specs.declared.entry.Content.{Content}
use Rattle.pairs.specs.declared.entry.Content.TheVariants.{Pair, Inline, SkipList}
use Rattle.pairs.specs.Slots.{slot_of, name_of, content_of, none}
use Rattle.pairs.specs.Sizes.{name_size, content_size, entry_size}

-- a place of which only what lies in the list counts
pub part_clipped : (xs : List ℕ) (n at k : ℕ) → length xs ≡ n → take (min k (n - at)) (drop (min at n) xs) ≡ part xs at k
part_clipped xs n at k long = ⊎_elim
    (λ (lt : at < n).
    let from : min at n ≡ at = omega arith in
    let left : length (drop at xs) ≡ n - at = simp length-drop (omega arith) in
    ap (λ j. take (min k (n - at)) (drop j xs)) from ∙ shorter (drop at xs) k (n - at) left)
    (λ (ge : n ≤ at).
    let from : min at n ≡ n = omega arith in
    let count : min k (n - at) ≡ 0 = omega arith in
    let past : drop at xs ≡ [] = drop_all at xs (omega arith) in
    ap (λ j. take j (drop (min at n) xs)) count ∙ sym (ap (take k) past ∙ none_of k))
    (cases_lt at n)
  where
    shorter : (ys : List ℕ) (k m : ℕ) → length ys ≡ m → take (min k m) ys ≡ take k ys
    shorter ys k m is = ⊎_elim (λ (lt : k < m). let e : min k m ≡ k = omega arith in ap (λ j. take j ys) e) (λ (ge : m ≤ k). let e : min k m ≡ m = omega arith in ap (λ j. take j ys) e ∙ take_all m ys (omega arith) ∙ sym (take_all k ys (omega arith))) (cases_lt k m)

    none_of : (k : ℕ) → take {A = ℕ} k [] ≡ []
    none_of k = take_all k [] (omega arith)

pub part_long : (xs : List ℕ) (n at k : ℕ) → length xs ≡ n → min k (n - at) ≡ length (part xs at k)
part_long xs n at k long = simp (length-take, length-drop) (omega arith)

module _ (b : List ℕ) (whole : length b ≡ 4096) where
  name_size-is : (o : Option Name) → name_size o ≡ name_long (option_map (name_of b) o)
  name_size-is None = refl
  name_size-is (Some n) = part_long b 4096 n.span.at n.span.length whole

  content_size-is : (o : Option Content) → content_size o ≡ content_long (option_map (content_of b) o)
  content_size-is None = refl
  content_size-is (Some (Pair p)) = refl
  content_size-is (Some (Inline s)) = part_long b 4096 s.at s.length whole
  content_size-is (Some (SkipList head size)) = refl

  -- the size of entries is a sum over them
  pub sizes-is : (es : List Entry) → sum_by entry_size es ≡ size_of (map (slot_of b) es)
  sizes-is [] = refl
  sizes-is (e ∷ es) = omega (arith, sum_by-cons entry_size e es, name_size-is e.name, content_size-is e.content, sizes-is es)

-- one entry more
pub size_push : (xs : List Slot) (x : Slot) → size_of (xs ++ x ∷ []) ≡ size_of xs + (8 + name_long x.name + content_long x.content)
size_push [] x = omega arith
size_push (y ∷ xs) x = omega (arith, size_push xs x)

pub size_more : (b : List ℕ) → length b ≡ 4096 → (es : List Entry) (i n : ℕ) → i < length es → n ≡ entry_size (get_or es i none) → size_of (map (slot_of b) (take (i + 1) es)) ≡ size_of (map (slot_of b) (take i es)) + n
size_more b whole es i n lt is =
    let e = get_or es i none in
    let long : n ≡ 8 + name_long (slot_of b e).name + content_long (slot_of b e).content = omega (arith, is, name_size-is b whole e.name, content_size-is b whole e.content) in
    ap size_of (map_more (slot_of b) es i none lt) ∙ size_push (map (slot_of b) (take i es)) (slot_of b e) ∙ ap (λ k. size_of (map (slot_of b) (take i es)) + k) (sym long)
