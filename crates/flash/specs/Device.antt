-- What a device answers to a request, and what it then holds.
use Rattle.std.specs.Prelude.{◌≡◌, ℕ, ◌+◌, cond, ◌&&◌, ◌⊎◌, List, [], ◌∷◌, length, Some, None, Ok, Err, Option, Result, nat_le, nat_lt}
use Rattle.flash.specs.Card.{Card, bytes, lit}
use Rattle.flash.specs.Write.{Write, part, refusal, written, Torn}
use Rattle.flash.specs.History.{event, write, power_up, Histories, Extends}
use Rattle.flash.specs.declared.Refusal.{Refusal}
use Rattle.flash.specs.declared.Refusal.TheVariants.{Dark, Outside}

-- Why a read of n bytes at an offset of block b is refused: the card is dark, or the read reaches outside it.
unfoldable pub read_refusal : Card → ℕ → ℕ → ℕ → Option Refusal
read_refusal c b at n = cond c.dark (Some Dark) (cond (nat_lt b (length c.blocks) && nat_le (at + n) c.size) None (Some Outside))

-- what a check of a request answers: the reason to refuse it, or that there is none
abbrev pub Checks : {T : Type 0} → Option Refusal → Result T Refusal → Type 0
Checks reason (Ok _) = reason ≡ None
Checks reason (Err e) = reason ≡ Some e

-- The answer to a read into a buffer that held `old`, and what the buffer holds then: the bytes asked for, or what it held.
abbrev pub Reads : {T : Type 0} → Card → ℕ → ℕ → List ℕ → Result T Refusal → List ℕ → Type 0
Reads c b at old (Ok _) out = (read_refusal c b at (length old) ≡ None) × (out ≡ part (bytes c b) at (length old))
Reads c b at old (Err e) out = (read_refusal c b at (length old) ≡ Some e) × (out ≡ old)

-- The answer to a write, the card d then, and the device's histories before and after: done; refused, with nothing
-- changed and nothing added to the history; or cut by the power, with the refusal for a dark card.
abbrev pub Answers : {T : Type 0} → Card → Write → Result T Refusal → Card → Histories → Histories → Type 0
Answers c w (Ok _) d before after = (refusal c w ≡ None) × (d ≡ written c w) × Extends before after (event c (write w) d ∷ [])
Answers c w (Err e) d before after =
    ((refusal c w ≡ Some e) × (d ≡ c) × Extends before after [])
    ⊎ ((e ≡ Dark) × (refusal c w ≡ None) × Torn c w d × Extends before after (event c (write w) d ∷ []))

-- Powered up again: the same bytes and good blocks, not dark.
abbrev pub PowersUp : Card → Card → Histories → Histories → Type 0
PowersUp c d before after = (d ≡ lit c) × Extends before after (event c power_up d ∷ [])
