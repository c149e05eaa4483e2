-- Which sizes a card may have, and that the test of a device tells.
use Rattle.std.proofs.Common.{◌≡◌, ℕ, ◌≤◌, true, false, ◌&&◌, ◌||◌, eqb, leb, length, Some, None, Ok, Err, Result, sym, ap, ◌∙◌, subst, arith}
use Rattle.std.proofs.lemmas.Bool.{le-leb, ne_eqb, cond-false}
use Rattle.flash.specs.Card.{Card}
use Rattle.skiplist.specs.Sizes.{bytes_of, SizeOf}
use Rattle.skiplist.specs.declared.size.WrongSize.{WrongSize}
use Rattle.skiplist.specs.declared.size.BlockSize.{BlockSize}
use Rattle.skiplist.specs.declared.size.BlockSize.TheVariants.{Bytes512, Bytes1024, Bytes2048, Bytes4096}
use Rattle.skiplist.proofs.Sizes.{bytes_least}
use Rattle.volume.specs.Check.{is_size}
use Rattle.volume.specs.Sizes.{SizeTold}
use Rattle.volume.specs.declared.fault.What.{What}
use Rattle.volume.specs.declared.fault.What.TheVariants.{Dark, Size}
use Rattle.volume.proofs.Retold.{retold}

-- the bytes of a size are those of a card
pub size_known : (size : BlockSize) (s n : ℕ) → bytes_of size ≡ s → 8 ≤ n → n ≤ 4096 → is_size s n ≡ true
size_known size s n e lo hi = subst (λ (x : ℕ). is_size x n ≡ true) e (each size)
  where
    count : (leb 8 n && leb n 4096) ≡ true
    count = ap (λ t. t && leb n 4096) (le-leb 8 n lo) ∙ le-leb n 4096 hi

    each : (size : BlockSize) → is_size (bytes_of size) n ≡ true
    each Bytes512 = count
    each Bytes1024 = count
    each Bytes2048 = count
    each Bytes4096 = count

-- no size has the bytes of no card
pub size_unknown : (s n : ℕ) → ((size : BlockSize) → bytes_of size ≡ s → ⊥) → is_size s n ≡ false
size_unknown s n none =
    ap (λ t. (t || (eqb s 1024 || (eqb s 2048 || eqb s 4096))) && (leb 8 n && leb n 4096)) (ne_eqb s 512 (λ e. none Bytes512 (sym e)))
    ∙ ap (λ t. (t || (eqb s 2048 || eqb s 4096)) && (leb 8 n && leb n 4096)) (ne_eqb s 1024 (λ e. none Bytes1024 (sym e)))
    ∙ ap (λ t. (t || eqb s 4096) && (leb 8 n && leb n 4096)) (ne_eqb s 2048 (λ e. none Bytes2048 (sym e)))
    ∙ ap (λ t. t && (leb 8 n && leb n 4096)) (ne_eqb s 4096 (λ e. none Bytes4096 (sym e)))

pub told_size : (c : Card) (size : BlockSize) (s n : ℕ) → c.dark ≡ false → n ≡ length c.blocks → s ≡ c.size → 8 ≤ n → n ≤ 4096 → bytes_of size ≡ s → SizeTold c (Ok size)
told_size c size s n lit count is lo hi e =
    (record { powered = lit; wide = omega (arith, bytes_least size); few = omega arith }, e ∙ is, size_known size c.size (length c.blocks) (e ∙ is) (omega arith) (omega arith))

pub told_none : (c : Card) (s : ℕ) → c.dark ≡ false → s ≡ c.size → ((size : BlockSize) → bytes_of size ≡ s → ⊥) → SizeTold c (Err Size)
told_none c s lit is none =
    cond-false c.dark (Some Dark) _ lit
    ∙ cond-false (is_size c.size (length c.blocks)) None (Some Size) (size_unknown c.size (length c.blocks) (λ size e. none size (e ∙ sym is)))

-- either, by the answer to the number of a card's bytes
pub told_by : (c : Card) (s n : ℕ) (r : Result BlockSize WrongSize) (q : Result BlockSize What) → c.dark ≡ false → n ≡ length c.blocks → s ≡ c.size → 8 ≤ n → n ≤ 4096 → SizeOf s r → q ≡ retold (λ _. Size) r → SizeTold c q
told_by c s n (Ok size) q lit count is lo hi of e = subst (SizeTold c) (sym e) (told_size c size s n lit count is lo hi of)
told_by c s n (Err w) q lit count is lo hi of e = subst (SizeTold c) (sym e) (told_none c s lit is of.1)
