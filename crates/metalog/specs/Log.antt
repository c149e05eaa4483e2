-- How a block's log is read: from the bytes of a block, whatever they are, to its revision and its finished commits.
-- The reading goes tag by tag. It stops, without a fault, at the first tag that is not valid, that runs past the block
-- with its data, or that ends a commit with a checksum that is cut off or wrong.
use Rattle.std.specs.Prelude.{ℕ, zero, suc, ◌+◌, ◌-◌, ◌^◌, Bool, false, cond, List, [], ◌∷◌, ◌++◌, length, take, drop, Some, None, Option, ◌==◌, bit_xor, nat_le, nat_lt}
use Rattle.metalog.specs.Crc.{crc_of}
use Rattle.metalog.specs.Tag.{type_of, id_of, length_of, ends_commit, next_prior, be32, le32}

-- n bytes of the block from i on
abbrev pub part : List ℕ → ℕ → ℕ → List ℕ
part b i n = take n (drop i b)

-- what a checksum starts from
abbrev pub seed : ℕ
seed = 0xffffffff

-- what the first tag of a log is stored XORed with
abbrev pub first_prior : ℕ
first_prior = 0xffffffff

-- the decoded tag at i, if it is valid and has all its data in the block
unfoldable pub tag_at : List ℕ → ℕ → ℕ → Option ℕ
tag_at b i prior =
    let t = bit_xor (be32 b i) prior in
    cond (nat_lt (length b - i) 4) None (cond (nat_le (2 ^ 31) t) None (cond (nat_lt (length b - i - 4) (length_of t)) None (Some t)))

-- a tag of a commit, with the offset of its first byte and its data
pub record Entry : Type 0 where
  pub kind : ℕ
  pub id : ℕ
  pub offset : ℕ
  pub bytes : List ℕ

-- the end of a commit: where it ends, what the tag behind it is XORed with, and the offset and the id of the tag that ends it
pub record End : Type 0 where
  pub offset : ℕ
  pub prior : ℕ
  pub tag : ℕ
  pub id : ℕ

-- what one tag says: it belongs to the commit, or it ends the commit
pub data Item : Type 0 where
  held : Entry → Item
  ended : End → Item

-- where the reading stands: the place of the next tag, what it is XORed with, and the checksum of the commit so far; or it has stopped
pub data Cursor : Type 0 where
  at : ℕ → ℕ → ℕ → Cursor
  nowhere : Cursor

-- the place behind a tag and its data
abbrev pub past : ℕ → ℕ → ℕ
past i t = i + 4 + length_of t

abbrev pub entry_at : List ℕ → ℕ → ℕ → Entry
entry_at b i t = record { kind = type_of t; id = id_of t; offset = i; bytes = part b (i + 4) (length_of t) }

abbrev pub end_at : ℕ → ℕ → End
end_at i t = record { offset = past i t; prior = next_prior t; tag = i; id = id_of t }

-- an ending tag's data begin with the checksum of the commit's stored bytes through that tag
unfoldable pub closes : List ℕ → ℕ → ℕ → ℕ → Bool
closes b i sum t = cond (nat_le 4 (length_of t)) (crc_of sum (part b i 4) == le32 b (i + 4)) false

-- what one tag says, and where the reading stands behind it
pub record Step : Type 0 where
  pub item : Option Item
  pub next : Cursor

abbrev pub halt : Step
halt = record { item = None; next = nowhere }

-- a tag inside a commit
abbrev pub holding : List ℕ → ℕ → ℕ → ℕ → Step
holding b i sum t = record { item = Some (held (entry_at b i t)); next = at (past i t) (next_prior t) (crc_of sum (part b i (4 + length_of t))) }

-- a tag that ends a commit, behind which the next commit begins
unfoldable pub closing : List ℕ → ℕ → ℕ → ℕ → Step
closing b i sum t = cond (closes b i sum t) (record { item = Some (ended (end_at i t)); next = at (past i t) (next_prior t) seed }) halt

unfoldable pub step_with : List ℕ → ℕ → ℕ → Option ℕ → Step
step_with b i sum None = halt
step_with b i sum (Some t) = cond (ends_commit t) (closing b i sum t) (holding b i sum t)

unfoldable pub step : List ℕ → Cursor → Step
step b (at i prior sum) = step_with b i sum (tag_at b i prior)
step b nowhere = halt

abbrev pub before : Option Item → List Item → List Item
before None xs = []
before (Some x) xs = x ∷ xs

-- all that is read from a cursor on, at most n tags
unfoldable pub items : ℕ → List ℕ → Cursor → List Item
items zero b c = []
items (suc n) b c = before (step b c).item (items n b (step b c).next)

-- behind the revision word, which the checksum of the first commit covers too
unfoldable pub start : List ℕ → Cursor
start b = cond (nat_lt (length b) 4) nowhere (at 4 first_prior (crc_of seed (take 4 b)))

-- every tag takes four bytes at least, so a block has no more tags than bytes
abbrev pub items_of : List ℕ → List Item
items_of b = items (length b) b (start b)

-- the finished commits, with the tags `begun` of the first of them read already; the ending tag is no part of a commit
abbrev pub commits_of : List Entry → List Item → List (List Entry)
commits_of begun [] = []
commits_of begun (held e ∷ xs) = commits_of (begun ++ e ∷ []) xs
commits_of begun (ended e ∷ xs) = begun ∷ commits_of [] xs

pub record Log : Type 0 where
  pub revision : ℕ
  pub commits : List (List Entry)

-- a log with no finished commit is empty, whatever its revision word
abbrev pub log_from : ℕ → List (List Entry) → Log
log_from revision [] = record { revision = 0; commits = [] }
log_from revision (x ∷ xs) = record { revision = revision; commits = x ∷ xs }

-- THE READING RULE
abbrev pub log_of : List ℕ → Log
log_of b = log_from (le32 b 0) (commits_of [] (items_of b))

abbrev pub empty_log : Log
empty_log = record { revision = 0; commits = [] }

-- the end of the last finished commit, or e where none is finished
abbrev pub end_from : End → List Item → End
end_from e [] = e
end_from e (held x ∷ xs) = end_from e xs
end_from e (ended x ∷ xs) = end_from x xs

-- an empty log ends at the offset 0
abbrev pub no_end : End
no_end = record { offset = 0; prior = first_prior; tag = 0; id = 0x3ff }

abbrev pub end_of : List ℕ → End
end_of b = end_from no_end (items_of b)
