-- An edit of a table's entries is the same edit of the entries that they stand for.
use Rattle.std.proofs.Common.{◌≡◌, ℕ, suc, ◌+◌, ◌-◌, ◌<◌, List, ◌∷◌, ◌++◌, map, length, get_or, take, drop, set, replicate, sym, ap, ◌∙◌, arith, length-append}
use lib.ListN.{length-replicate}
use lib.LanesLaws.{map-replicate}
use Rattle.std.specs.List.{insert, remove}
use Rattle.std.proofs.lemmas.List.{map-append, map-set, take-map, drop-map, get_or-map, length-map}
use Rattle.volume.specs.State as volume
use Rattle.volume.specs.State.{Slot, blank, with_entries, with_name, with_content, grown, named, filled}
use Rattle.pairs.specs.declared.entry.Name.{Name}
use Rattle.pairs.specs.declared.entry.Content.{Content}
use Rattle.pairs.specs.declared.entry.Entry.{Entry}
use Rattle.pairs.specs.declared.table.Table.{Table}
use Rattle.pairs.specs.Slots.{slot_of, name_of, content_of, none}
use Rattle.pairs.specs.Tables.{state_of, grown_to, called, holding, Edited}

module _ (b : List ℕ) where
  pub map_inserted : (es : List Entry) (i : ℕ) → map (slot_of b) (insert es i none) ≡ volume.inserted (map (slot_of b) es) i
  map_inserted es i =
      let f = slot_of b in
      let front = take-map f i es in
      let back = drop-map f i es in
      map-append f (take i es) (none ∷ drop i es) ∙ ap (λ ws. ws ++ blank ∷ map f (drop i es)) (sym front) ∙ ap (λ ws. take i (map f es) ++ blank ∷ ws) (sym back)

  pub map_removed : (es : List Entry) (i : ℕ) → map (slot_of b) (remove es i) ≡ volume.removed (map (slot_of b) es) i
  map_removed es i =
      let f = slot_of b in
      let next : suc i ≡ i + 1 = omega arith in
      map-append f (take i es) (drop (suc i) es) ∙ ap (λ ws. ws ++ map f (drop (suc i) es)) (sym (take-map f i es)) ∙ ap (λ ws. take i (map f es) ++ ws) (sym (drop-map f (suc i) es)) ∙ ap (λ k. take i (map f es) ++ drop k (map f es)) next

  pub map_content : (es : List Entry) (i : ℕ) (c : Content) → i < length es → map (slot_of b) (set es i (holding (get_or es i none) c)) ≡ with_content (map (slot_of b) es) i (content_of b c)
  map_content es i c lt =
      let f = slot_of b in
      map-set f es i (holding (get_or es i none) c) ∙ ap (λ (x : Slot). set (map f es) i (filled x (content_of b c))) (sym (get_or-map f es i none blank lt))

  map_grown : (es : List Entry) (i : ℕ) → map (slot_of b) (grown_to es i) ≡ grown (map (slot_of b) es) i
  map_grown es i =
      let f = slot_of b in
      map-append f es (replicate (i + 1 - length es) none) ∙ ap (λ ws. map f es ++ ws) (map-replicate f (i + 1 - length es) none) ∙ ap (λ n. map f es ++ replicate (i + 1 - n) blank) (sym (length-map es f))

  pub map_name : (es : List Entry) (i : ℕ) (n : Name) → map (slot_of b) (set (grown_to es i) i (called (get_or (grown_to es i) i none) n)) ≡ with_name (map (slot_of b) es) i (name_of b n)
  map_name es i n =
      let f = slot_of b in
      let gs = grown_to es i in
      let long : i < length gs = simp (length-append, length-replicate) (omega arith) in
      map-set f gs i (called (get_or gs i none) n) ∙ ap (λ (x : Slot). set (map f gs) i (named x (name_of b n))) (sym (get_or-map f gs i none blank long)) ∙ ap (λ (ss : List Slot). set ss i (named (get_or ss i blank) (name_of b n))) (map_grown es i)

  -- the state of an edited table
  pub edited_state : (t u : Table) (es : List Entry) → Edited t u es → state_of b u ≡ with_entries (state_of b t) (map (slot_of b) es)
  edited_state t u es e = let x = e.entries in let y = e.tail in let z = e.moves in cc

  pub count_state : (t : Table) → length (state_of b t).entries ≡ length t.entries.items
  count_state t = length-map t.entries.items (slot_of b)
