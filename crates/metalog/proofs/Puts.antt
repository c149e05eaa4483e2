-- One write into a buffer after another.
use Rattle.std.proofs.Common.{◌≡◌, ℕ, ◌+◌, List, [], ◌++◌, length, take, drop, sym, refl, ap, ◌∙◌, subst, append_assoc, append-nil, add-zero, arith, length-append}
use Rattle.std.proofs.lemmas.List.{drop-drop}
use Rattle.metalog.specs.Writer.{Put}

pub none : (b : List ℕ) (i : ℕ) → Put b b i []
none b i = record { long = refl; front = ap (λ n. take n b) (add-zero i) ∙ sym (append-nil (take i b)); back = refl }

pub then : {b c d : List ℕ} {i : ℕ} {xs ys : List ℕ} → Put b c i xs → Put c d (i + length xs) ys → Put b d i (xs ++ ys)
then {b} {c} {d} {i} {xs} {ys} p q =
    let end : i + length (xs ++ ys) ≡ i + length xs + length ys = omega (arith, length-append xs ys) in
    let j = i + length xs in
    record {
      long = q.long ∙ p.long;
      front = ap (λ n. take n d) end ∙ q.front ∙ ap (λ l. l ++ ys) p.front ∙ append_assoc (take i b) xs ys;
      back = ap (λ n. drop n d) end ∙ q.back ∙ sym (drop-drop (length ys) j c) ∙ ap (drop (length ys)) p.back ∙ drop-drop (length ys) j b ∙ sym (ap (λ n. drop n b) end);
    }

-- at a place and with bytes that are known by another name
pub moved : {b c : List ℕ} {i j : ℕ} {xs ys : List ℕ} → i ≡ j → xs ≡ ys → Put b c i xs → Put b c j ys
moved {b} {c} {i} {j} {xs} {ys} e f p = subst (λ zs. Put b c j zs) f (subst (λ k. Put b c k xs) e p)
