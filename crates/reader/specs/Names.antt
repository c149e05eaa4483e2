-- The name before, in the directory that is read.
use Rattle.std.specs.Prelude.{Option}
use Rattle.std.specs.Option.{option_map}
use Rattle.volume.specs.Tree.{Name}
use Rattle.reader.specs.declared.last.LastName.{LastName}

-- the name that is kept
abbrev pub last_of : LastName → Option Name
last_of l = option_map (λ n. n.items) l.name
