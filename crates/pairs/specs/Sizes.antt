-- How many bytes kept entries take, written as one commit, where their places are cut off at the end of the buffer.
use Rattle.std.specs.Prelude.{ℕ, ◌+◌, ◌-◌, min, Some, None, Option}
use Rattle.std.specs.Option.{option_map_or}
use Rattle.pairs.specs.declared.entry.Span.{Span}
use Rattle.pairs.specs.declared.entry.Name.{Name}
use Rattle.pairs.specs.declared.entry.Content.{Content}
use Rattle.pairs.specs.declared.entry.Content.TheVariants.{Pair, Inline, SkipList}
use Rattle.pairs.specs.declared.entry.Entry.{Entry}

-- how many bytes of a place lie in the buffer
abbrev pub clipped : Span → ℕ
clipped s = min s.length (4096 - s.at)

abbrev pub name_size : Option Name → ℕ
name_size o = option_map_or (λ n. clipped n.span) o 0

abbrev pub content_size : Option Content → ℕ
content_size None = 0
content_size (Some (Pair p)) = 8
content_size (Some (Inline s)) = clipped s
content_size (Some (SkipList head size)) = 8

-- two tags and their data
abbrev pub entry_size : Entry → ℕ
entry_size e = 8 + name_size e.name + content_size e.content
