-- What was asked of a device, one event after the other, and what a device promises of its history.
-- A contract that merely says "there were some writes" could be met by writes that nobody made. So a device keeps a
-- ghost history, and code that is generic in the device can extend it only by what it really asked.
use Rattle.std.specs.Prelude.{◌≡◌, false, List, [], ◌∷◌, ◌++◌}
use Rattle.flash.specs.Card.{Card, lit}
use Rattle.flash.specs.Write.{Write, written, Torn}

-- what is asked of a device: a write, or that it be powered up again
pub data Operation : Type 0 where
  write : Write → Operation
  power_up : Operation

-- a request that was not refused, with the card before it and the card after it
pub record Event : Type 0 where
  pub before : Card
  pub asked : Operation
  pub after : Card

abbrev pub event : Card → Operation → Card → Event
event c o d = record { before = c; asked = o; after = d }

-- the card after an operation that was done
abbrev pub done : Card → Operation → Card
done c (write w) = written c w
done c power_up = lit c

-- the event was done in full, and the power stayed
pub record Completed (e : Event) : Type 0 where
  pub is : e.after ≡ done e.before e.asked
  pub powered : e.after.dark ≡ false

-- the power went in the event, which was a write
pub record Cut (e : Event) : Type 0 where
  pub w : Write
  pub is : e.asked ≡ write w
  pub torn : Torn e.before w e.after

abbrev pub All : (Event → Type 0) → List Event → Type 0
All P [] = Unit {0}
All P (e ∷ es) = P e × All P es

-- each event begins at the card that the one before it left: from the card c to the card d
abbrev pub Execution : Card → List Event → Card → Type 0
Execution c [] d = d ≡ c
Execution c (e ∷ es) d = (e.before ≡ c) × Execution e.after es d

-- which lists of events are a history of a device
abbrev pub Histories : Type 1
Histories = List Event → Type 0

-- Each history of the device before, with the events es behind it, is a history of the device after.
pub record Extends (before after : Histories) (es : List Event) : Type 0 where
  pub each : (h : List Event) → before h → after (h ++ es)

-- events that were really asked, from the card c to d, all done
pub record Completes (c d : Card) (before after : Histories) : Type 0 where
  pub es : List Event
  pub adds : Extends before after es
  pub chain : Execution c es d
  pub whole : All Completed es

-- events that were really asked, from the card c to d, all done but the last, in which the power went
pub record Crashes (c d : Card) (before after : Histories) : Type 0 where
  pub es : List Event
  pub last : Event
  pub adds : Extends before after (es ++ last ∷ [])
  pub chain : Execution c es last.before
  pub whole : All Completed es
  pub cut : Cut last
  pub ends : d ≡ last.after
