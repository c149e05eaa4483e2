-- What the values of the reader mean.
use Rattle.std.specs.Prelude.{◌≡◌, ℕ, ◌+◌, ◌≤◌, length, cond, Option, OnSome}
use Rattle.std.specs.Option.{option_map}
use Rattle.metalog.specs.declared.tags.Role.{Role}
use Rattle.metalog.specs.declared.tags.Role.TheVariants.{Ends, Holds}
use Rattle.metalog.specs.declared.reader.Entry as code
use Rattle.metalog.specs.declared.reader.End as code-end
use Rattle.metalog.specs.declared.reader.Item as code-item
use Rattle.metalog.specs.declared.reader.Item.TheVariants.{Held, Ended}
use Rattle.metalog.specs.declared.reader.State.{State}
use Rattle.metalog.specs.declared.reader.State.TheVariants as state
use Rattle.metalog.specs.declared.reader.LogReader.{LogReader}
use Rattle.metalog.specs.Tag.{ends_commit}
use Rattle.metalog.specs.Log.{Entry, End, Item, held, ended, Cursor, at, nowhere, seed, step}

-- the kind of a tag, as the reader matches it with its own state
abbrev pub role_of : ℕ → Role
role_of t = cond (ends_commit t) Ends Holds

abbrev pub entry_of : code.Entry → Entry
entry_of e = record { kind = e.kind; id = e.id; offset = e.offset; bytes = e.«data».now }

abbrev pub end_for : code-end.End → End
end_for e = record { offset = e.offset; prior = e.prior; tag = e.tag; id = e.id }

abbrev pub item_of : code-item.Item → Item
item_of (Held e) = held (entry_of e)
item_of (Ended e) = ended (end_for e)

-- where a reader stands
abbrev pub cursor_in : ℕ → ℕ → State → Cursor
cursor_in i prior (state.Inside sum) = at i prior sum
cursor_in i prior state.Ended = at i prior seed
cursor_in i prior state.Stopped = nowhere

abbrev pub cursor_of : LogReader → Cursor
cursor_of r = cursor_in r.at r.prior r.state

-- One call of a reader's `next`: what it gives, and where the reader stands afterwards. An item takes four bytes of the block at least.
pub record Reads (old : LogReader) (result : Option code-item.Item) (new : LogReader) : Type 0 where
  pub block : new.block.now ≡ old.block.now
  pub item : option_map item_of result ≡ (step old.block.now (cursor_of old)).item
  pub cursor : cursor_of new ≡ (step old.block.now (cursor_of old)).next
  pub moves : OnSome result ((old.at + 4 ≤ new.at) × (new.at ≤ length old.block.now))
