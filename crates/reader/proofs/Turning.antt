-- The entries of a directory, one after the other: what is still to be read makes the whole directory.
use Rattle.std.proofs.Common.{◌≡◌, ℕ, Bool, List, [], ◌∷◌, ◌++◌, Some, None, Ok, Err, Option, sym, refl, ap, ◌∙◌}
use Rattle.flash.specs.Card.{Card}
use Rattle.volume.specs.Check.{Item, Dir, Met, Scan, then, scan_item, scan_items}
use Rattle.volume.specs.Tree.{Name, Node, Entries, none, entry}
use Rattle.volume.specs.declared.fault.Fault.{Fault}

-- entries in front of others
abbrev pub onto : List (Name × Node) → Entries → Entries
onto [] es = es
onto (e ∷ done) es = entry e.0 e.1 (onto done es)

onto_push : (done : List (Name × Node)) (e : Name × Node) (es : Entries) → onto (done ++ e ∷ []) es ≡ onto done (entry e.0 e.1 es)
onto_push [] e es = refl
onto_push (d ∷ done) e es = ap (entry d.0 d.1) (onto_push done e es)

-- the whole of a directory, by what is left of it: the entries so far are in front
abbrev pub with_rest : Scan Entries → List (Name × Node) → Scan Entries
with_rest r done = then r (λ es m. Ok (onto done es, m))

module _ (c : Card) (ds : List Dir) (enter : ℕ → Met → Scan Entries) (deep : Bool) where
  -- nothing is left before the first entry is read
  pub turn_start : (xs : List Item) (met : Met) → scan_items c ds enter deep None xs met ≡ with_rest (scan_items c ds enter deep None xs met) []
  turn_start xs met = as_it_is (scan_items c ds enter deep None xs met)
    where
      as_it_is : (r : Scan Entries) → r ≡ with_rest r []
      as_it_is (Ok x) = refl
      as_it_is (Err e) = refl

  -- one entry more
  pub turn_one : (done : List (Name × Node)) (last : Option Name) (x : Item) (xs : List Item) (met m : Met) (e : Name × Node) → scan_item c ds enter deep last x met ≡ Ok (e, m)
      → with_rest (scan_items c ds enter deep last (x ∷ xs) met) done ≡ with_rest (scan_items c ds enter deep (Some e.0) xs m) (done ++ e ∷ [])
  unfolding scan_items
  turn_one done last x xs met m e h =
      ap (λ r. with_rest (then r (λ nt met. then (scan_items c ds enter deep (Some nt.0) xs met) (λ es met. Ok (entry nt.0 nt.1 es, met)))) done) h
      ∙ by (scan_items c ds enter deep (Some e.0) xs m)
    where
      by : (r : Scan Entries) → with_rest (then r (λ es met. Ok (entry e.0 e.1 es, met))) done ≡ with_rest r (done ++ e ∷ [])
      by (Ok x) = ap (λ es. Ok (es, x.1)) (sym (onto_push done e x.0))
      by (Err f) = refl

  -- an entry with a fault
  pub turn_fault : (done : List (Name × Node)) (last : Option Name) (x : Item) (xs : List Item) (met : Met) (f : Fault) → scan_item c ds enter deep last x met ≡ Err f → with_rest (scan_items c ds enter deep last (x ∷ xs) met) done ≡ Err f
  unfolding scan_items
  turn_fault done last x xs met f h = ap (λ r. with_rest (then r (λ nt met. then (scan_items c ds enter deep (Some nt.0) xs met) (λ es met. Ok (entry nt.0 nt.1 es, met)))) done) h

  -- no entry is left
  pub turn_end : (done : List (Name × Node)) (last : Option Name) (met : Met) → with_rest (scan_items c ds enter deep last [] met) done ≡ Ok (onto done none, met)
  unfolding scan_items
  turn_end done last met = refl
