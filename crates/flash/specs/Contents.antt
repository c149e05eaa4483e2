-- Putting a whole content into a block: done exactly, refused with nothing changed, or cut by the power in one of its
-- writes. These are the facts that layers above take from the two calls that write more than a unit.
use Rattle.std.specs.Prelude.{◌≡◌, ℕ, ◌%◌, Bool, true, false, ◌&&◌, ◌⊎◌, List, ◌∷◌, length, Some, None, Ok, Err, Option, Result, ◌==◌, nat_lt}
use Rattle.std.proofs.Math.Seq.{paste}
use Rattle.flash.specs.Card.{Card, bytes, is_good, put}
use Rattle.flash.specs.Write.{Write, erase, is_erased, part, refusal}
use Rattle.flash.specs.History.{Histories}
use Rattle.flash.specs.Runs.{Finished, Interrupted, programs, fits, unfit, Untouched, filled}
use Rattle.flash.specs.declared.Refusal.{Refusal}
use Rattle.flash.specs.declared.Refusal.TheVariants.{Dark}

-- the card with the content in block b from an offset on, and all else as it was
abbrev pub pasted : Card → ℕ → ℕ → List ℕ → Card
pasted c b at content = put c b (paste (bytes c b) at content (length content))

-- where the answer is Ok, the content stands in the block from the offset on, and all else is as it was
abbrev pub Pasted : {T : Type 0} → Card → ℕ → ℕ → List ℕ → Result T Refusal → Card → Type 0
Pasted c b at content (Ok _) d = d ≡ pasted c b at content
Pasted c b at content (Err e) d = Unit {0}

-- whether n bytes at an offset of block b are free units: the block is there and good, the offset is that of a unit, the
-- bytes are whole units inside the block, and all of them are 0xff
abbrev pub is_free : Card → ℕ → ℕ → ℕ → Bool
is_free c b at n = nat_lt b (length c.blocks) && (is_good c b && (at % 16 == 0 && (fits c at n && is_erased (part (bytes c b) at n))))

-- the outcome of writes none of which is refused: all were done, or the power went in one of them
abbrev pub Unhindered : {T : Type 0} → List Write → Card → Result T Refusal → Card → Histories → Histories → Type 0
Unhindered ws c (Ok _) d old new = Finished ws c d old new
Unhindered ws c (Err e) d old new = (e ≡ Dark) × Interrupted ws c d old new

-- on a card that has its power, programs of free units are not refused
abbrev pub TakesFree : {T : Type 0} → Card → ℕ → ℕ → List ℕ → Result T Refusal → Card → Histories → Histories → Type 0
TakesFree c b at content r d old new = c.dark ≡ false → is_free c b at (length content) ≡ true → Unhindered (programs b at content) c r d old new

-- the writes that give block b a new content: its erase, and then its units upward
abbrev pub rewrites : ℕ → List ℕ → List Write
rewrites b content = erase b ∷ programs b 0 content

-- the first of two reasons, where there is one
abbrev pub first_of : Option Refusal → Option Refusal → Option Refusal
first_of None later = later
first_of (Some e) later = Some e

-- why giving block b a content of n bytes is refused, the first reason in this order: the card is dark; the content is no
-- whole number of units or longer than a block; the block takes no erase
abbrev pub block_refusal : Card → ℕ → ℕ → Option Refusal
block_refusal c b n = first_of (unfit c 0 n) (refusal c (erase b))

-- Giving block b a new content: it then holds exactly the content with 0xff behind it, and nothing else changed; or it was
-- refused for its reason, nothing was asked and nothing changed; or the power went in one of its writes.
abbrev pub WroteBlock : {T : Type 0} → Card → ℕ → List ℕ → Result T Refusal → Card → Histories → Histories → Type 0
WroteBlock c b content (Ok _) d old new =
    (block_refusal c b (length content) ≡ None) × (d ≡ put c b (filled c content)) × Finished (rewrites b content) c d old new
WroteBlock c b content (Err e) d old new =
    ((block_refusal c b (length content) ≡ Some e) × Untouched c d old new)
    ⊎ ((e ≡ Dark) × (block_refusal c b (length content) ≡ None) × Interrupted (rewrites b content) c d old new)
