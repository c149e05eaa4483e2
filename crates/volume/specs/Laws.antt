-- What holds of every card that can be read.
use Rattle.std.specs.Prelude.{◌≡◌, ℕ, true, false, List, [], ◌∷◌, length, Ok}
use Rattle.flash.specs.Card.{Card, bytes}
use Rattle.volume.specs.Thread.{member}
use Rattle.volume.specs.Check.{check, Reading}
use Rattle.volume.specs.Ways.{Reached}
use Rattle.volume.specs.Examples.{Examples}

-- two cards of one shape, with the same good blocks, that hold the same in some blocks
pub record Agree (bs : List ℕ) (c d : Card) : Type 0 where
  pub size : d.size ≡ c.size
  pub count : length d.blocks ≡ length c.blocks
  pub good : d.good ≡ c.good
  pub dark : d.dark ≡ c.dark
  pub same : (b : ℕ) → member b bs ≡ true → bytes d b ≡ bytes c b

-- What is written to blocks that are not used changes nothing of what a card holds.
abbrev pub Frame : Type 0
Frame = (c d : Card) (r : Reading) → check c ≡ Ok r → Agree r.used c d → check d ≡ Ok r

-- no number is in the list twice
abbrev pub Apart : List ℕ → Type 0
Apart [] = Unit {0}
Apart (x ∷ xs) = (member x xs ≡ false) × Apart xs

-- No block serves twice: the blocks of the list and of the tree's files are all different.
abbrev pub ServesOnce : Type 0
ServesOnce = (c : Card) (r : Reading) → check c ≡ Ok r → Apart r.used

-- Each directory is reached by one path: no two paths lead to one directory, and only the orphans are reached by none.
abbrev pub OnePath : Type 0
OnePath = (c : Card) (r : Reading) → check c ≡ Ok r → Reached r

-- All laws of what a card holds.
pub record CardLaws : Type 0 where
  pub frame : Frame
  pub serves_once : ServesOnce
  pub one_path : OnePath
  pub examples : Examples
