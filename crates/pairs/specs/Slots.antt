-- What a kept entry means over the bytes of a block: a place stands for the bytes there.
use Rattle.std.specs.Prelude.{ℕ, List, None}
use Rattle.std.specs.Option.{option_map}
use Rattle.metalog.specs.Log.{part}
use Rattle.volume.specs.State as volume
use Rattle.volume.specs.State.{Struct, Slot, file, directory, superblock, pair, inline, skip}
use Rattle.pairs.specs.declared.entry.Kind as code-kind
use Rattle.pairs.specs.declared.entry.Kind.TheVariants.{File, Directory, Superblock}
use Rattle.pairs.specs.declared.entry.Name as code-name
use Rattle.pairs.specs.declared.entry.Content.{Content}
use Rattle.pairs.specs.declared.entry.Content.TheVariants.{Pair, Inline, SkipList}
use Rattle.pairs.specs.declared.entry.Entry.{Entry}
use Rattle.pairs.specs.declared.entry.Tail as code-tail
use Rattle.pairs.specs.declared.entry.Moves as code-moves

-- what a name is the name of
abbrev pub kind_of : code-kind.Kind → volume.Kind
kind_of File = file
kind_of Directory = directory
kind_of Superblock = superblock

-- a name, with its bytes out of those of the block
abbrev pub name_of : List ℕ → code-name.Name → volume.Name
name_of b n = record { kind = kind_of n.kind; bytes = part b n.span.at n.span.length }

-- what stands behind a name, with an inline file's bytes out of those of the block
abbrev pub content_of : List ℕ → Content → Struct
content_of b (Pair p) = pair p.first p.second
content_of b (Inline s) = inline (part b s.at s.length)
content_of b (SkipList head size) = skip head size

-- an entry, of which either part may be missing
abbrev pub slot_of : List ℕ → Entry → Slot
slot_of b e = record { name = option_map (name_of b) e.name; content = option_map (content_of b) e.content }

-- the pair that a tail names
abbrev pub tail_of : code-tail.Tail → volume.Tail
tail_of t = record { hard = t.hard; first = t.pair.first; second = t.pair.second }

-- the move data
abbrev pub moves_of : code-moves.Moves → volume.Moves
moves_of m = record { word = m.word; first = m.pair.first; second = m.pair.second }

-- an entry of which nothing is known yet
abbrev pub none : Entry
none = record { name = None; content = None }
