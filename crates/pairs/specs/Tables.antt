-- What a table holds, and what the edits of a table leave.
use Rattle.std.specs.Prelude.{◌≡◌, ℕ, ◌+◌, ◌-◌, ◌<◌, ◌≤◌, List, ◌++◌, map, length, replicate, Some, Result, MatchResult, slice_index_or, slice_set}
use Rattle.std.specs.Option.{option_map}
use Rattle.volume.specs.State.{State}
use Rattle.pairs.specs.declared.entry.Name.{Name}
use Rattle.pairs.specs.declared.entry.Content.{Content}
use Rattle.pairs.specs.declared.entry.Entry.{Entry}
use Rattle.pairs.specs.declared.table.Table.{Table}
use Rattle.pairs.specs.declared.tags.Misplaced.{Misplaced}
use Rattle.pairs.specs.Slots.{slot_of, tail_of, moves_of, none}

-- THE STATE that a table stands for, over the bytes of a block
abbrev pub state_of : List ℕ → Table → State
state_of b t = record { entries = map (slot_of b) t.entries.items; tail = option_map tail_of t.tail; moves = option_map moves_of t.moves }

-- as many entries as an id asks for
abbrev pub grown_to : List Entry → ℕ → List Entry
grown_to es i = es ++ replicate (i + 1 - length es) none

-- an entry with another name
abbrev pub called : Entry → Name → Entry
called e n = record { name = Some n; content = e.content }

-- an entry with another content
abbrev pub holding : Entry → Content → Entry
holding e c = record { name = e.name; content = Some c }

-- the table u is t with these entries
pub record Edited (t u : Table) (es : List Entry) : Type 0 where
  pub entries : u.entries.items ≡ es
  pub tail : u.tail ≡ t.tail
  pub moves : u.moves ≡ t.moves

-- what giving a content to the entry at an id comes to: the table u is t with it, or there is no such entry
abbrev pub Gives : Table → ℕ → Content → Result (Unit {0}) Misplaced → Table → Type 0
Gives t i c r u = MatchResult r (λ _. (i < length t.entries.items) × Edited t u (slice_set t.entries.items i (holding (slice_index_or t.entries.items i none) c))) (λ _. length t.entries.items ≤ i)
