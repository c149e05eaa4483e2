-- The loop that grows a table.
use Rattle.std.proofs.Common.{◌≡◌, ℕ, ◌+◌, ◌-◌, ◌≤◌, ◌++◌, length, replicate}
use Rattle.pairs.specs.declared.table.Table.{Table}
use Rattle.pairs.specs.Slots.{none}

-- the table u is t with some blank entries more, no more than the id asks for
pub record Growing (t u : Table) (i : ℕ) : Type 0 where
  pub entries : u.entries.items ≡ t.entries.items ++ replicate (length u.entries.items - length t.entries.items) none
  pub more : length t.entries.items ≤ length u.entries.items
  pub enough : length u.entries.items - length t.entries.items ≤ i + 1 - length t.entries.items
  pub tail : u.tail ≡ t.tail
  pub moves : u.moves ≡ t.moves
