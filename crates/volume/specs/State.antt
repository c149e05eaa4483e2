-- What a pair holds: its entries by id, its tail and its move data, and what each tag of a finished commit does to them.
use Rattle.std.specs.Prelude.{ℕ, ◌+◌, ◌-◌, ◌≤◌, Bool, true, false, cond, ◌&&◌, List, [], ◌∷◌, ◌++◌, length, take, drop, replicate, Some, None, Option, ◌==◌, nat_le, nat_lt, slice_index_or, slice_set}
use Rattle.metalog.specs.Log.{Entry, Item, held, ended}
use Rattle.metalog.specs.Tag.{le32}

-- ---- entries

-- what a name is the name of
pub data Kind : Type 0 where
  file : Kind
  directory : Kind
  superblock : Kind

pub record Name : Type 0 where
  pub kind : Kind
  pub bytes : List ℕ

-- what stands behind a name: a directory's first pair, the bytes of an inline file, or the last block and the size of a
-- skip-list file
pub data Struct : Type 0 where
  pair : ℕ → ℕ → Struct
  inline : List ℕ → Struct
  skip : ℕ → ℕ → Struct

-- an entry, of which either part may be missing until all tags are read
pub record Slot : Type 0 where
  pub name : Option Name
  pub content : Option Struct

abbrev pub blank : Slot
blank = record { name = None; content = None }

-- ---- tails and move data

-- the pair that a tail names, in the same directory where it is hard
pub record Tail : Type 0 where
  pub hard : Bool
  pub first : ℕ
  pub second : ℕ

pub record Moves : Type 0 where
  pub word : ℕ
  pub first : ℕ
  pub second : ℕ

pub record State : Type 0 where
  pub entries : List Slot
  pub tail : Option Tail
  pub moves : Option Moves

abbrev pub start : State
start = record { entries = []; tail = None; moves = None }

-- ---- what a type of tag is

pub data Effect : Type 0 where
  inserts : Effect
  removes : Effect
  names : Kind → Effect
  points : Effect
  holds : Effect
  skips : Effect
  tails : Bool → Effect
  moves : Effect
  unknown : Effect

unfoldable pub effect_of : ℕ → Effect
effect_of kind =
    cond (kind == 0x401) inserts (cond (kind == 0x4ff) removes
    (cond (kind == 0x001) (names file) (cond (kind == 0x002) (names directory) (cond (kind == 0x0ff) (names superblock)
    (cond (kind == 0x200) points (cond (kind == 0x201) holds (cond (kind == 0x202) skips
    (cond (kind == 0x600) (tails false) (cond (kind == 0x601) (tails true) (cond (kind == 0x7ff) moves unknown))))))))))

-- ---- what a tag does

-- the id of a tag that is about no entry
abbrev pub no_id : ℕ
no_id = 0x3ff

abbrev pub with_entries : State → List Slot → State
with_entries s es = record { entries = es; tail = s.tail; moves = s.moves }

-- a new entry at an id; those from there on move up
abbrev pub inserted : List Slot → ℕ → List Slot
inserted es i = take i es ++ blank ∷ drop i es

-- without the entry at an id; those behind it move down
abbrev pub removed : List Slot → ℕ → List Slot
removed es i = take i es ++ drop (i + 1) es

-- as many entries as an id asks for
abbrev pub grown : List Slot → ℕ → List Slot
grown es i = es ++ replicate (i + 1 - length es) blank

abbrev pub named : Slot → Name → Slot
named x n = record { name = Some n; content = x.content }

abbrev pub filled : Slot → Struct → Slot
filled x c = record { name = x.name; content = Some c }

abbrev pub with_name : List Slot → ℕ → Name → List Slot
with_name es i n = slice_set (grown es i) i (named (slice_index_or (grown es i) i blank) n)

abbrev pub with_content : List Slot → ℕ → Struct → List Slot
with_content es i c = slice_set es i (filled (slice_index_or es i blank) c)

-- the state, if the test holds
abbrev pub when : Bool → State → Option State
when b s = cond b (Some s) None

-- What a tag makes of a state; nothing, if its length, its id or its size is none that it may have.
unfoldable pub applied : State → Effect → ℕ → List ℕ → Option State
applied s inserts i xs = when (length xs == 0 && nat_le i (length s.entries)) (with_entries s (inserted s.entries i))
applied s removes i xs = when (length xs == 0 && nat_lt i (length s.entries)) (with_entries s (removed s.entries i))
applied s (names k) i xs = when (nat_le 1 (length xs) && nat_le (length xs) 64) (with_entries s (with_name s.entries i (record { kind = k; bytes = xs })))
applied s points i xs = when (length xs == 8 && nat_lt i (length s.entries)) (with_entries s (with_content s.entries i (pair (le32 xs 0) (le32 xs 4))))
applied s holds i xs = when (nat_le (length xs) 64 && nat_lt i (length s.entries)) (with_entries s (with_content s.entries i (inline xs)))
applied s skips i xs =
    when (length xs == 8 && (nat_lt i (length s.entries) && (nat_le 1 (le32 xs 4) && nat_le (le32 xs 4) 1048576))) (with_entries s (with_content s.entries i (skip (le32 xs 0) (le32 xs 4))))
applied s (tails h) i xs =
    when (i == no_id && length xs == 8) (record { entries = s.entries; tail = Some (record { hard = h; first = le32 xs 0; second = le32 xs 4 }); moves = s.moves })
applied s moves i xs =
    when (i == no_id && length xs == 12) (record { entries = s.entries; tail = s.tail; moves = Some (record { word = le32 xs 0; first = le32 xs 4; second = le32 xs 8 }) })
applied s unknown i xs = None

abbrev pub apply : State → Entry → Option State
apply s e = applied s (effect_of e.kind) e.id e.bytes

-- ---- all tags of the finished commits

-- a tag in front of what is finished behind it: behind the last end nothing is
abbrev pub in_front : Entry → List Item → List Item
in_front e [] = []
in_front e (x ∷ xs) = held e ∷ x ∷ xs

-- what was read of the finished commits, through the last end
abbrev pub finished : List Item → List Item
finished [] = []
finished (held e ∷ xs) = in_front e (finished xs)
finished (ended e ∷ xs) = ended e ∷ finished xs

-- a state, or the offset of the first tag that must not be there
pub data Folded : Type 0 where
  state : State → Folded
  wrong : ℕ → Folded

abbrev pub step : Option State → ℕ → (State → Folded) → Folded
step None at f = wrong at
step (Some s) at f = f s

-- what the tags make of a state, one after the other; the tag that ends a commit must have the id of no entry
unfoldable pub fold_items : State → List Item → Folded
fold_items s [] = state s
fold_items s (held e ∷ xs) = step (apply s e) e.offset (λ t. fold_items t xs)
fold_items s (ended e ∷ xs) = cond (e.id == no_id) (fold_items s xs) (wrong e.tag)

-- ---- how much an entry takes

abbrev pub name_long : Option Name → ℕ
name_long None = 0
name_long (Some n) = length n.bytes

abbrev pub content_long : Option Struct → ℕ
content_long None = 0
content_long (Some (pair a b)) = 8
content_long (Some (inline xs)) = length xs
content_long (Some (skip a n)) = 8

-- the bytes of the entries, written as one commit: two tags and their data each
abbrev pub size_of : List Slot → ℕ
size_of [] = 0
size_of (x ∷ xs) = 8 + name_long x.name + content_long x.content + size_of xs

-- ---- the size of a skip-list file

-- a skip-list file has from 1 to 1048576 bytes
abbrev pub SizedIn : Option Struct → Type 0
SizedIn None = Unit {0}
SizedIn (Some (pair a b)) = Unit {0}
SizedIn (Some (inline xs)) = Unit {0}
SizedIn (Some (skip h n)) = (1 ≤ n) × (n ≤ 1048576)
