-- How many events of each kind a history has, and counters that tell it as far as they reach.
-- A recorder's histories are those of the device below it that its counters tell too.
use Rattle.std.specs.Prelude.{◌≡◌, ℕ, ◌+◌, ◌-◌, ◌^◌, min, Bool, true, false, cond, not, ◌&&◌, List, [], ◌∷◌, Ok, Err, Result}
use Rattle.flash.specs.Write.{program, erase}
use Rattle.flash.specs.History.{Operation, write, power_up, Event, Histories, Extends}
use Rattle.flash.specs.declared.Refusal.{Refusal}
use Rattle.flash.specs.declared.counts.Counts.{Counts}

abbrev pub is_program : Operation → Bool
is_program (write (program b at unit)) = true
is_program (write (erase b)) = false
is_program power_up = false

abbrev pub is_erase : Operation → Bool
is_erase (write (program b at unit)) = false
is_erase (write (erase b)) = true
is_erase power_up = false

abbrev pub is_power_up : Operation → Bool
is_power_up (write (program b at unit)) = false
is_power_up (write (erase b)) = false
is_power_up power_up = true

-- how many of the events asked for an operation of a kind
abbrev pub count_of : (Operation → Bool) → List Event → ℕ
count_of kind [] = 0
count_of kind (e ∷ es) = cond (kind e.asked) 1 0 + count_of kind es

-- a number as a counter of 64 bits tells it, which stops at its maximum
abbrev pub capped : ℕ → ℕ
capped n = min n (2 ^ 64 - 1)

-- the counts after one more operation was counted
abbrev pub tallied : Operation → Counts → Counts
tallied (write (program b at unit)) n = record n { programs = capped (n.programs + 1) }
tallied (write (erase b)) n = record n { erases = capped (n.erases + 1) }
tallied power_up n = record n { take_ups = capped (n.take_ups + 1) }

-- whether a write was not refused, by its answer and the card's power before and after it
abbrev pub not_refused : {T : Type 0} → Result T Refusal → Bool → Bool → Bool
not_refused (Ok _) was_dark is_dark = true
not_refused (Err e) was_dark is_dark = not was_dark && is_dark

-- the counts are those of the history: each event is counted once, one that was cut by the power like one that was done
pub record Counted (n : Counts) (h : List Event) : Type 0 where
  pub programmed : n.programs ≡ capped (count_of is_program h)
  pub erased : n.erases ≡ capped (count_of is_erase h)
  pub taken_up : n.take_ups ≡ capped (count_of is_power_up h)

-- the histories of a device that are also those of the counts
abbrev pub recorded : Histories → Counts → Histories
recorded N n h = N h × Counted n h

-- What a recorder's counts tell at a later state, where no event lay before the earlier state and the events es between
-- the two were really asked: how many of es there are of each kind.
pub record Account (before after : Histories) (n : Counts) : Type 0 where
  pub tells : (es : List Event) → before [] → Extends before after es → Counted n es
