-- What it means that a write is refused for a reason, or for none, as facts of the card.
-- Both ways: the facts from the answer, and the answer from the facts.
use Rattle.std.proofs.Common.{◌≡◌, ℕ, ◌+◌, ◌%◌, ◌<◌, ◌≤◌, true, false, List, length, Some, None, arith}
use Rattle.std.proofs.lemmas.Bool.Decides.{nat_tests}
use Rattle.flash.specs.Card.{Card, bytes, is_good}
use Rattle.flash.specs.Write.{Write, program, erase, is_erased, part, is_unit, refusal}
use Rattle.flash.specs.declared.Refusal.{Refusal}
use Rattle.flash.specs.declared.Refusal.TheVariants.{Dark, Outside, Bad, Used}

-- a unit that may be programmed
pub record MayProgram (c : Card) (b at n : ℕ) : Type 0 where
  pub powered : c.dark ≡ false
  pub block : b < length c.blocks
  pub sixteen : n ≡ 16
  pub aligned : at % 16 ≡ 0
  pub inside : at + 16 ≤ c.size
  pub good : is_good c b ≡ true
  pub blank : is_erased (part (bytes c b) at 16) ≡ true

-- a block that may be erased
pub record MayErase (c : Card) (b : ℕ) : Type 0 where
  pub powered : c.dark ≡ false
  pub block : b < length c.blocks
  pub good : is_good c b ≡ true

pub may_program : (c : Card) (b at : ℕ) (u : List ℕ) → refusal c (program b at u) ≡ None → MayProgram c b at (length u)
unfolding refusal
may_program c b at u h = record {
  powered = grind (arith, nat_tests);
  block = grind (arith, nat_tests);
  sixteen = grind (arith, nat_tests);
  aligned = grind (arith, nat_tests);
  inside = grind (arith, nat_tests);
  good = grind (arith, nat_tests);
  blank = grind (arith, nat_tests);
}

pub program_may : (c : Card) (b at : ℕ) (u : List ℕ) → MayProgram c b at (length u) → refusal c (program b at u) ≡ None
unfolding refusal
program_may c b at u m = grind (arith, nat_tests)

pub may_erase : (c : Card) (b : ℕ) → refusal c (erase b) ≡ None → MayErase c b
unfolding refusal
may_erase c b h = record { powered = grind (arith, nat_tests); block = grind (arith, nat_tests); good = grind (arith, nat_tests) }

pub erase_may : (c : Card) (b : ℕ) → MayErase c b → refusal c (erase b) ≡ None
unfolding refusal
erase_may c b m = grind (arith, nat_tests)

-- a write is done only while the power is there
pub accepted_powered : (c : Card) (w : Write) → refusal c w ≡ None → c.dark ≡ false
accepted_powered c (program b at u) h = (may_program c b at u h).powered
accepted_powered c (erase b) h = (may_erase c b h).powered

-- a dark card refuses every write
pub dark_refuses : (c : Card) (w : Write) → c.dark ≡ true → refusal c w ≡ Some Dark
unfolding refusal
dark_refuses c (program b at u) h = grind (arith, nat_tests)
dark_refuses c (erase b) h = grind (arith, nat_tests)

-- a write for which there is no reason to refuse is not refused for a reason
pub accepted_not_refused : (c : Card) (w : Write) (e : Refusal) → refusal c w ≡ None → refusal c w ≡ Some e → ⊥
accepted_not_refused c w e h k = grind arith

-- why a program is refused, as facts of the card
abbrev pub NoProgram : Card → ℕ → ℕ → ℕ → Refusal → Type 0
NoProgram c b at n Dark = c.dark ≡ true
NoProgram c b at n Outside = (c.dark ≡ false) × (is_unit c b at n ≡ false)
NoProgram c b at n Bad = (c.dark ≡ false) × (is_unit c b at n ≡ true) × (is_good c b ≡ false)
NoProgram c b at n Used = (c.dark ≡ false) × (is_unit c b at n ≡ true) × (is_good c b ≡ true) × (is_erased (part (bytes c b) at 16) ≡ false)

-- why an erase is refused, as facts of the card
abbrev pub NoErase : Card → ℕ → Refusal → Type 0
NoErase c b Dark = c.dark ≡ true
NoErase c b Outside = (c.dark ≡ false) × (length c.blocks ≤ b)
NoErase c b Bad = (c.dark ≡ false) × (b < length c.blocks) × (is_good c b ≡ false)
NoErase c b Used = ⊥

pub no_program : (c : Card) (b at : ℕ) (u : List ℕ) (e : Refusal) → refusal c (program b at u) ≡ Some e → NoProgram c b at (length u) e
unfolding refusal
no_program c b at u Dark h = grind (arith, nat_tests)
no_program c b at u Outside h = (grind (arith, nat_tests), grind (arith, nat_tests))
no_program c b at u Bad h = (grind (arith, nat_tests), grind (arith, nat_tests), grind (arith, nat_tests))
no_program c b at u Used h = (grind (arith, nat_tests), grind (arith, nat_tests), grind (arith, nat_tests), grind (arith, nat_tests))

pub no_erase : (c : Card) (b : ℕ) (e : Refusal) → refusal c (erase b) ≡ Some e → NoErase c b e
unfolding refusal
no_erase c b Dark h = grind (arith, nat_tests)
no_erase c b Outside h = (grind (arith, nat_tests), grind (arith, nat_tests))
no_erase c b Bad h = (grind (arith, nat_tests), grind (arith, nat_tests), grind (arith, nat_tests))
no_erase c b Used h = grind (arith, nat_tests)
