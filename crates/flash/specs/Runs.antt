-- Several writes asked one after the other, up to the first that is refused or cut by the power.
use Rattle.std.specs.Prelude.{◌≡◌, ℕ, zero, suc, ◌+◌, ◌-◌, ◌/◌, ◌%◌, Bool, cond, ◌&&◌, ◌⊎◌, List, [], ◌∷◌, ◌++◌, length, take, drop, replicate, Some, None, Ok, Err, Option, Result, ◌==◌, nat_le}
use Rattle.flash.specs.Card.{Card}
use Rattle.flash.specs.Write.{Write, program, refusal, written, Torn}
use Rattle.flash.specs.History.{Event, event, write, Histories, Extends}
use Rattle.flash.specs.declared.Refusal.{Refusal}
use Rattle.flash.specs.declared.Refusal.TheVariants.{Dark, Outside}

-- the card after writes that were all done
abbrev pub after : Card → List Write → Card
after c [] = c
after c (w ∷ ws) = after (written c w) ws

-- the events of writes that were all done
abbrev pub events : Card → List Write → List Event
events c [] = []
events c (w ∷ ws) = event c (write w) (written c w) ∷ events (written c w) ws

-- none of the writes, asked in their order, is refused
abbrev pub Accepted : Card → List Write → Type 0
Accepted c [] = Unit {0}
Accepted c (w ∷ ws) = (refusal c w ≡ None) × Accepted (written c w) ws

-- all the writes were done
pub record Finished (ws : List Write) (c d : Card) (old new : Histories) : Type 0 where
  pub accepted : Accepted c ws
  pub is : d ≡ after c ws
  pub adds : Extends old new (events c ws)

-- one write was refused for the reason e, and those before it were done
pub record Refused (ws : List Write) (e : Refusal) (c d : Card) (old new : Histories) : Type 0 where
  pub front : List Write
  pub w : Write
  pub rest : List Write
  pub splits : ws ≡ front ++ w ∷ rest
  pub accepted : Accepted c front
  pub because : refusal (after c front) w ≡ Some e
  pub is : d ≡ after c front
  pub adds : Extends old new (events c front)

-- the power went in one write, and those before it were done
pub record Interrupted (ws : List Write) (c d : Card) (old new : Histories) : Type 0 where
  pub front : List Write
  pub w : Write
  pub rest : List Write
  pub splits : ws ≡ front ++ w ∷ rest
  pub accepted : Accepted c front
  pub may : refusal (after c front) w ≡ None
  pub torn : Torn (after c front) w d
  pub adds : Extends old new (events c front ++ event (after c front) (write w) d ∷ [])

-- the outcome of asking for all the writes: the answer, the card then, and the histories before and after
abbrev pub Runs : {T : Type 0} → List Write → Card → Result T Refusal → Card → Histories → Histories → Type 0
Runs ws c (Ok _) d old new = Finished ws c d old new
Runs ws c (Err e) d old new = Refused ws e c d old new ⊎ ((e ≡ Dark) × Interrupted ws c d old new)

-- the programs of n units upward through block b, from an offset on
abbrev pub units : ℕ → ℕ → ℕ → List ℕ → List Write
units b at zero content = []
units b at (suc n) content = program b at (take 16 content) ∷ units b (at + 16) n (drop 16 content)

-- the programs that put the content into block b from an offset on
abbrev pub programs : ℕ → ℕ → List ℕ → List Write
programs b at content = units b at (length content / 16) content

-- whether the content is a whole number of units that fit into a block behind an offset
abbrev pub fits : Card → ℕ → ℕ → Bool
fits c at n = n % 16 == 0 && nat_le (at + n) c.size

-- why writing n bytes behind an offset is refused before any write is asked: the card is dark, or they do not fit
unfoldable pub unfit : Card → ℕ → ℕ → Option Refusal
unfit c at n = cond c.dark (Some Dark) (cond (fits c at n) None (Some Outside))

-- nothing was asked, and nothing changed
pub record Untouched (c d : Card) (old new : Histories) : Type 0 where
  pub is : d ≡ c
  pub adds : Extends old new []

-- Asking for writes that put n bytes into a block behind an offset: refused before the first, or run.
abbrev pub Tried : {T : Type 0} → ℕ → ℕ → List Write → Card → Result T Refusal → Card → Histories → Histories → Type 0
Tried at n ws c (Ok _) d old new = (unfit c at n ≡ None) × Finished ws c d old new
Tried at n ws c (Err e) d old new = ((unfit c at n ≡ Some e) × Untouched c d old new) ⊎ ((unfit c at n ≡ None) × Runs {T = Unit {0}} ws c (Err e) d old new)

-- a block that begins with the content, and is erased behind it
abbrev pub filled : Card → List ℕ → List ℕ
filled c content = content ++ replicate (c.size - length content) 0xff
