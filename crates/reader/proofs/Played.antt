-- An entry with what lies below it is its outcome, played.
use Rattle.std.proofs.Common.{◌≡◌, ℕ, Bool, true, false, cond, ◌||◌, eqb, List, ◌∷◌, Some, None, Ok, Err, Option, refl}
use Rattle.flash.specs.Card.{Card}
use Rattle.volume.specs.Check.{Item, Dir, find_dir, Met, Scan, then, Fit, file_inline, file_skip, dir_pair, extra_superblock, unfit, fit_of, content_fault, name_fault, refused, unless, entered, node_of, scan_item}
use Rattle.volume.specs.Thread.{member}
use Rattle.volume.specs.Tree.{Name, Node, directory, Entries}
use Rattle.volume.specs.declared.fault.What.{What}
use Rattle.volume.specs.declared.fault.What.TheVariants.{Directory}
use Rattle.reader.specs.Outcomes.{Outcome, faulty, leads, or_faulty, leads_to, outcome_in, outcome_of, played}

module _ (c : Card) (ds : List Dir) (enter : ℕ → Met → Scan Entries) where
  or_faulty_lem : (block : ℕ) (w : Option What) (o : Outcome) (r : Scan (Name × Node)) → r ≡ played enter block o → unless block w r ≡ played enter block (or_faulty w o)
  or_faulty_lem block None o r e = e
  or_faulty_lem block (Some w) o r e = refl

  to_directory : (block : ℕ) (n : Name) (o : Option ℕ) (met : Met) → then {B = Name × Node} (entered enter block o met) (λ t met. Ok ((n, t), met)) ≡ played enter block (leads_to n o met)
  to_directory block n None met = refl
  to_directory block n (Some k) met = by (eqb k 0 || member k met.dirs)
    where
      below : (r : Scan Entries) → then {B = Name × Node} (then {B = Node} r (λ es met. Ok (directory es, met))) (λ t met. Ok ((n, t), met)) ≡ then {B = Name × Node} r (λ es met. Ok ((n, directory es), met))
      below (Ok x) = refl
      below (Err f) = refl

      by : (v : Bool) → then {B = Name × Node} (cond v (refused block Directory) (then {B = Node} (enter k (record { seen = met.seen; dirs = k ∷ met.dirs })) (λ es met. Ok (directory es, met)))) (λ t met. Ok ((n, t), met))
          ≡ played enter block (cond v (faulty Directory) (leads n k (record { seen = met.seen; dirs = k ∷ met.dirs })))
      by true = refl
      by false = below (enter k (record { seen = met.seen; dirs = k ∷ met.dirs }))

  node_played : (deep : Bool) (last : Option Name) (block : ℕ) (f : Fit) (met : Met) → node_of c ds enter deep last block f met ≡ played enter block (outcome_in c ds deep last f met)
  unfolding node_of
  node_played deep last block (file_inline n xs) met = or_faulty_lem block (name_fault deep last n) _ _ refl
  node_played deep last block (file_skip n h size) met = or_faulty_lem block (name_fault deep last n) _ _ refl
  node_played deep last block (dir_pair n a b) met = or_faulty_lem block (name_fault deep last n) _ _ (to_directory block n (find_dir 0 ds a b) met)
  node_played deep last block extra_superblock met = refl
  node_played deep last block unfit met = refl

  pub item_played : (deep : Bool) (last : Option Name) (x : Item) (met : Met) → scan_item c ds enter deep last x met ≡ played enter x.block (outcome_of c ds deep last x.slot met)
  unfolding outcome_of
  item_played deep last x met = or_faulty_lem x.block (content_fault c met.seen x.slot.content) _ _ (node_played deep last x.block (fit_of x.slot) met)
