-- A chip whose power goes in a given write: its card and the writes that are left until then. Everything that a request
-- does to a chip is settled here: which writes count, in which one the power goes, what a torn write leaves.
use Rattle.std.specs.Prelude.{◌≡◌, ℕ, ◌-◌, ◌/◌, Bool, true, false, not, ◌||◌, ◌⊎◌, List, [], ◌∷◌, ◌++◌, map, drop, replicate, Some, None, Ok, Err, Result, ◌==◌}
use Rattle.std.proofs.Math.Seq.{paste}
use Rattle.std.specs.List.{range_with_len}
use Rattle.flash.specs.Card.{Card, bytes, put, darkened, lit}
use Rattle.flash.specs.Write.{Write, program, erase, target, refusal, written}
use Rattle.flash.specs.declared.Refusal.{Refusal}
use Rattle.flash.specs.declared.Refusal.TheVariants.{Dark}

-- a card, and when its power goes
pub record Chip : Type 0 where
  pub card : Card
  -- in which of the writes to come the power goes, counted from 1; 0 where it stays
  pub left : ℕ

-- the chip of a card and a count
abbrev pub chip : Card → ℕ → Chip
chip c n = record { card = c; left = n }

-- what a torn write leaves in its block: the first 8 bytes of a unit written, or the first half of a block erased, and
-- the rest as it was
abbrev pub halfway : Card → Write → List ℕ
halfway c (program b at unit) = paste (bytes c b) at unit 8
halfway c (erase b) = replicate (c.size / 2) 0xff ++ drop (c.size / 2) (bytes c b)

-- the card after a write in which the power went
abbrev pub torn : Card → Write → Card
torn c w = darkened (put c (target w) (halfway c w))

-- What a chip answers to a write, and the chip then: done, and one write fewer is left; refused, and nothing is
-- changed; or, in the write that was to come last, cut by the power.
abbrev pub Writes : {T : Type 0} → Chip → Write → Result T Refusal → Chip → Type 0
Writes x w (Ok _) y = (refusal x.card w ≡ None) × ((x.left == 1) ≡ false) × (y ≡ chip (written x.card w) (x.left - 1))
Writes x w (Err e) y =
    ((refusal x.card w ≡ Some e) × (y ≡ x))
    ⊎ ((refusal x.card w ≡ None) × ((x.left == 1) ≡ true) × (e ≡ Dark) × (y ≡ chip (torn x.card w) 0))

-- the chip powered up again: a pending count goes on
abbrev pub powered_up : Chip → Chip
powered_up x = chip (lit x.card) x.left

-- whether a number is in a list
abbrev pub is_in : ℕ → List ℕ → Bool
is_in b [] = false
is_in b (x ∷ xs) = x == b || is_in b xs

-- the marks of blocks that are all good but for those listed; numbers past the last block name no block
abbrev pub good_but : ℕ → List ℕ → List Bool
good_but count bad = map (λ b. not (is_in b bad)) (range_with_len 0 count)
