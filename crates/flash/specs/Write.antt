-- One write to a card: when it is refused, what it leaves when it is done, and what it may leave when the power goes in it.
use Rattle.std.specs.Prelude.{◌≡◌, ℕ, ◌+◌, ◌%◌, ◌<◌, Bool, true, cond, ◌&&◌, ◌⊎◌, List, [], ◌∷◌, length, take, drop, replicate, Some, None, Option, ◌==◌, nat_le, nat_lt, slice_index}
use Rattle.std.proofs.Math.Seq.{paste}
use Rattle.flash.specs.Card.{Card, bytes, is_good, put, darkened}
use Rattle.flash.specs.declared.Refusal.{Refusal}
use Rattle.flash.specs.declared.Refusal.TheVariants.{Dark, Outside, Bad, Used}

-- a program of the bytes `unit` at an offset of a block, or an erase of a block
pub data Write : Type 0 where
  program : ℕ → ℕ → List ℕ → Write
  erase : ℕ → Write

-- the number of a refusal
abbrev pub number_of : Refusal → ℕ
number_of Dark = 12
number_of Outside = 17
number_of Bad = 18
number_of Used = 19

-- the block that a write is to change
abbrev pub target : Write → ℕ
target (program b at unit) = b
target (erase b) = b

-- whether bytes are as an erase leaves them
abbrev pub is_erased : List ℕ → Bool
is_erased [] = true
is_erased (x ∷ xs) = x == 0xff && is_erased xs

-- n bytes of a list from a place on
abbrev pub part : List ℕ → ℕ → ℕ → List ℕ
part xs at n = take n (drop at xs)

-- whether n bytes at an offset of block b are a unit of the card: 16 bytes at a multiple of 16
abbrev pub is_unit : Card → ℕ → ℕ → ℕ → Bool
is_unit c b at n = nat_lt b (length c.blocks) && (n == 16 && (at % 16 == 0 && nat_le (at + 16) c.size))

-- Why a write is refused, the first reason in this order: the card is dark; the write reaches outside the card or is
-- no unit; the block is not good; a unit to program is not all 0xff.
unfoldable pub refusal : Card → Write → Option Refusal
refusal c (program b at unit) =
    cond c.dark (Some Dark)
    (cond (is_unit c b at (length unit)) (cond (is_good c b) (cond (is_erased (part (bytes c b) at 16)) None (Some Used)) (Some Bad)) (Some Outside))
refusal c (erase b) = cond c.dark (Some Dark) (cond (nat_lt b (length c.blocks)) (cond (is_good c b) None (Some Bad)) (Some Outside))

-- what the block of a write holds once it is done
abbrev pub intended : Card → Write → List ℕ
intended c (program b at unit) = paste (bytes c b) at unit 16
intended c (erase b) = replicate c.size 0xff

-- the card after a write that was done
abbrev pub written : Card → Write → Card
written c w = put c (target w) (intended c w)

-- each byte of mid is that of old or that of new
pub record Mixed (old new mid : List ℕ) : Type 0 where
  pub long : length mid ≡ length old
  pub byte : (k : ℕ) → k < length mid → (slice_index mid k ≡ slice_index old k) ⊎ (slice_index mid k ≡ slice_index new k)

-- The power went in a write: each byte of its block is as it was or as the write was to leave it (so what a program
-- does not reach is as it was), all else is the same, and the card is dark.
pub record Torn (c : Card) (w : Write) (d : Card) : Type 0 where
  pub left : List ℕ
  pub mixed : Mixed (bytes c (target w)) (intended c w) left
  pub is : d ≡ darkened (put c (target w) left)
