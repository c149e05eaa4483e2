-- The tests that come before the list.
use Rattle.std.proofs.Common.{◌≡◌, Bool, true, false, cond, List, [], length, Some, None, Ok, Err, Result, refl, sym, ap, ◌∙◌}
use Rattle.std.proofs.lemmas.Option.{same_Some}
use Rattle.flash.specs.Card.{Card, is_good}
use Rattle.skiplist.specs.declared.size.BlockSize.{BlockSize}
use Rattle.volume.proofs.Retold.{retold}
use Rattle.volume.specs.Check.{is_size}
use Rattle.volume.specs.Listing.{Readable}
use Rattle.volume.specs.Pair.{Pair, fault}
use Rattle.volume.specs.Sizes.{SizeTold}
use Rattle.volume.specs.Thread.{thread}
use Rattle.volume.specs.declared.fault.What.{What}
use Rattle.volume.specs.declared.fault.Fault.{Fault}
use Rattle.volume.specs.declared.fault.What.TheVariants.{Dark, Size, RootBlock}
use Rattle.pairlist.specs.Walks.{list_of}

-- the tests, over what they are of
abbrev tests : Bool → Bool → Bool → Bool → Result (List Pair) Fault → Result (List Pair) Fault
tests dark size good_0 good_1 r =
    cond dark (Err (fault Dark 0 0)) (cond size (cond good_0 (cond good_1 r (Err (fault RootBlock 1 0))) (Err (fault RootBlock 0 0))) (Err (fault Size 0 0)))

module _ (c : Card) where
  by_tests : (d s g0 g1 : Bool) → c.dark ≡ d → is_size c.size (length c.blocks) ≡ s → is_good c 0 ≡ g0 → is_good c 1 ≡ g1 → list_of c ≡ tests d s g0 g1 (thread c)
  unfolding list_of
  by_tests d s g0 g1 p q r t =
      ap (λ v. tests v (is_size c.size (length c.blocks)) (is_good c 0) (is_good c 1) (thread c)) p
      ∙ ap (λ v. tests d v (is_good c 0) (is_good c 1) (thread c)) q
      ∙ ap (λ v. tests d s v (is_good c 1) (thread c)) r
      ∙ ap (λ v. tests d s g0 v (thread c)) t

  stop_dark : c.dark ≡ true → list_of c ≡ Err (fault Dark 0 0)
  unfolding list_of
  stop_dark p = ap (λ v. tests v (is_size c.size (length c.blocks)) (is_good c 0) (is_good c 1) (thread c)) p

  stop_size : c.dark ≡ false → is_size c.size (length c.blocks) ≡ false → list_of c ≡ Err (fault Size 0 0)
  unfolding list_of
  stop_size p q = ap (λ v. tests v (is_size c.size (length c.blocks)) (is_good c 0) (is_good c 1) (thread c)) p ∙ ap (λ v. tests false v (is_good c 0) (is_good c 1) (thread c)) q

  -- the test of a card's size does not pass
  stops : (w : What) → SizeTold c (Err w) → list_of c ≡ Err (fault w 0 0)
  stops w told = by c.dark (is_size c.size (length c.blocks)) refl refl told
    where
      by : (d s : Bool) → c.dark ≡ d → is_size c.size (length c.blocks) ≡ s → cond d (Some Dark) (cond s None (Some Size)) ≡ Some w → list_of c ≡ Err (fault w 0 0)
      by true s p q e = stop_dark p ∙ ap (λ v. Err (fault v 0 0)) (same_Some _ _ e)
      by false true p q e = absurd (cc)
      by false false p q e = stop_size p q ∙ ap (λ v. Err (fault v 0 0)) (same_Some _ _ e)

  -- what is known by the answer of that test, told as a fault of the whole card
  pub stops_by : (r : Result BlockSize What) (q : Result BlockSize Fault) (f : Fault) → SizeTold c r → q ≡ retold (λ w. fault w 0 0) r → q ≡ Err f → list_of c ≡ Err f
  stops_by (Ok size) q f told e was = absurd (cc)
  stops_by (Err w) q f told e was = stops w told ∙ ap error_first (sym e ∙ was)
    where
      error_first : Result BlockSize Fault → Result (List Pair) Fault
      error_first (Ok size) = Ok []
      error_first (Err f) = Err f

  pub passes_by : (r : Result BlockSize What) (q : Result BlockSize Fault) (size : BlockSize) → SizeTold c r → q ≡ retold (λ w. fault w 0 0) r → q ≡ Ok size → (c.dark ≡ false) × (is_size c.size (length c.blocks) ≡ true)
  passes_by (Ok known) q size told e was = (told.0.powered, told.2)
  passes_by (Err w) q size told e was = absurd (cc)

  pub stop_first : c.dark ≡ false → is_size c.size (length c.blocks) ≡ true → is_good c 0 ≡ false → list_of c ≡ Err (fault RootBlock 0 0)
  unfolding list_of
  stop_first p q r =
      ap (λ v. tests v (is_size c.size (length c.blocks)) (is_good c 0) (is_good c 1) (thread c)) p
      ∙ ap (λ v. tests false v (is_good c 0) (is_good c 1) (thread c)) q
      ∙ ap (λ v. tests false true v (is_good c 1) (thread c)) r

  pub stop_second : c.dark ≡ false → is_size c.size (length c.blocks) ≡ true → is_good c 0 ≡ true → is_good c 1 ≡ false → list_of c ≡ Err (fault RootBlock 1 0)
  stop_second = by_tests false true true false

  -- a card that passes them all
  pub enters : Readable c → list_of c ≡ thread c
  enters r = by_tests false true true true r.bright r.sized r.good_0 r.good_1
