-- What a block holds when the power went while a content was put into it: whole units up to one, that unit in part, and
-- behind it what was there before. Nothing else on the card changed.
use Rattle.std.specs.Prelude.{◌≡◌, ℕ, ◌+◌, ◌*◌, ◌≤◌, ◌⊎◌, List, length, take, replicate}
use Rattle.std.proofs.Math.Seq.{paste}
use Rattle.flash.specs.Card.{Card, Shaped, bytes, put, darkened}
use Rattle.flash.specs.Write.{Mixed}
use Rattle.flash.specs.History.{Histories}
use Rattle.flash.specs.Runs.{Interrupted, programs, filled}
use Rattle.flash.specs.Contents.{rewrites}

-- The power went in a program of a unit of the content: `units` of them were whole before it.
pub record CutUnits (c : Card) (b at : ℕ) (content : List ℕ) (d : Card) : Type 0 where
  pub units : ℕ
  pub more : 16 * units + 16 ≤ length content
  pub left : List ℕ
  pub mixed : Mixed (paste (bytes c b) at content (16 * units)) (paste (bytes c b) at content (16 * units + 16)) left
  pub is : d ≡ darkened (put c b left)

-- The power went while a block was given a new content: in its erase, or in a unit behind it.
pub record CutBlock (c : Card) (b : ℕ) (content : List ℕ) (d : Card) : Type 0 where
  pub left : List ℕ
  pub mixed : Mixed (bytes c b) (replicate c.size 0xff) left ⊎ ((units : ℕ) × (16 * units + 16 ≤ length content) × Mixed (filled c (take (16 * units) content)) (filled c (take (16 * units + 16) content)) left)
  pub is : d ≡ darkened (put c b left)

-- What an interruption of the two calls that write more than a unit leaves, at the histories of a device before and after.
pub record Leaves (before after : Histories) : Type 0 where
  pub units : (c d : Card) (b at : ℕ) (content : List ℕ) → Shaped c → Interrupted (programs b at content) c d before after → CutUnits c b at content d
  pub block : (c d : Card) (b : ℕ) (content : List ℕ) → Interrupted (rewrites b content) c d before after → CutBlock c b content d
