-- A set of blocks as it is kept, and the list of blocks that it stands for.
use Rattle.std.specs.Prelude.{◌≡◌, ℕ, List}
use Rattle.blockset.specs.Holds.{holds}
use Rattle.blockset.specs.declared.BlockSet.{BlockSet}
use Rattle.volume.specs.Thread.{member}

-- the set holds just the blocks of the list
abbrev pub Marks : BlockSet → List ℕ → Type 0
Marks s xs = (b : ℕ) → holds s b ≡ member b xs
