-- What a visit of a pair comes to, by what was read.
use Rattle.std.proofs.Common.{◌≡◌, ℕ, List, length, Some, None, Ok, Err, Option, Result, sym, refl, ap, ◌∙◌}
use Rattle.std.specs.Option.{option_map, UnwrapsOrElse}
use Rattle.flash.specs.Card.{Card}
use Rattle.pairs.specs.Slots as slots
use Rattle.pairs.specs.declared.entry.Moves.{Moves}
use Rattle.volume.specs.Global.{no_moves, moves_of}
use Rattle.pairs.specs.Pairs.{pair_at}
use Rattle.pairs.proofs.Choosing.{pair_at_lem}
use Rattle.volume.specs.Pair.{Pair, fault, read_pair}
use Rattle.volume.specs.Thread.{pair_fault}
use Rattle.volume.specs.declared.fault.Fault.{Fault}
use Rattle.volume.specs.declared.fault.What.{What}
use Rattle.pairlist.specs.Visits.{Fit, ok_unless, fault_in, allowed, visited_by, visited}
use Rattle.pairlist.proofs.Loading.{sizes}

-- a pair that was read, by what its check answered
abbrev pub checked : Result (Unit {0}) What → Pair → Result Pair Fault
checked (Ok _) p = Ok p
checked (Err w) p = Err (fault w p.block 0)

by_check : (o : Option What) (p : Pair) → allowed o p ≡ checked (ok_unless o) p
by_check None p = refl
by_check (Some w) p = refl

-- move data, 0 where there are none
pub moves_default : {P : Moves → Type 0} (o : Option Moves) (r : Moves) → UnwrapsOrElse o P r → ((m : Moves) → P m → slots.moves_of m ≡ no_moves) → slots.moves_of r ≡ moves_of (option_map slots.moves_of o)
moves_default None r is zeros = zeros r is
moves_default (Some m) r is zeros = ap slots.moves_of is

module _ (c : Card) (seen : List ℕ) (a b : ℕ) (fit : Fit c a b) where
  read : pair_at c a b ≡ read_pair c a b
  read = pair_at_lem c a b fit.bright (sizes c.size (length c.blocks) fit.sized).0 fit.first fit.second

  pub visit_fails : (f : Fault) → pair_at c a b ≡ Err f → visited c seen a b ≡ Err f
  visit_fails f e = ap (visited_by c seen) (sym read ∙ e)

  pub visit_checked : (p : Pair) (r : Result (Unit {0}) What) → pair_at c a b ≡ Ok p → r ≡ ok_unless (fault_in c seen p.state) → visited c seen a b ≡ checked r p
  unfolding pair_fault
  visit_checked p r e is = ap (visited_by c seen) (sym read ∙ e) ∙ by_check (fault_in c seen p.state) p ∙ ap (λ (q : Result (Unit {0}) What). checked q p) (sym is)
