-- What the finished commits of a block make of a table.
use Rattle.std.specs.Prelude.{◌≡◌, ℕ, List, ◌++◌, Ok, Err, Result}
use Rattle.volume.specs.State.{start, fold_items, state, wrong}
use Rattle.volume.specs.Pair.{finished_of}
use Rattle.pairs.specs.declared.table.Table.{Table}
use Rattle.pairs.specs.Tables.{state_of}

-- The table stands for the state of the block's log, whatever bytes stand behind the block; or the offset is that of the
-- first tag that must not be there.
abbrev pub Folds : {T : Type 0} → List ℕ → Result T ℕ → Table → Type 0
Folds b (Ok _) t = (rest : List ℕ) → fold_items start (finished_of b) ≡ state (state_of (b ++ rest) t)
Folds b (Err at) t = fold_items start (finished_of b) ≡ wrong at
