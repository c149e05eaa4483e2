-- What a read of a file answers.
use Rattle.std.specs.Prelude.{◌≡◌, ℕ, ◌-◌, min, cond, ◌&&◌, List, ◌++◌, length, drop, Some, None, Ok, Err, Option, Result, nat_le}
use Rattle.flash.specs.Card.{Card}
use Rattle.flash.specs.Write.{part}
use Rattle.skiplist.specs.Places.{file_limit}
use Rattle.volume.specs.Files.{file_bytes}
use Rattle.volume.specs.Check.{is_size}
use Rattle.files.specs.Verdict.{verdict}
use Rattle.volume.specs.declared.fault.What.{What}
use Rattle.volume.specs.declared.fault.What.TheVariants.{Dark, Size, Tag}

-- how many bytes a read gives: as many as there is room for, of those that the file has from the place on
abbrev pub readable : ℕ → ℕ → ℕ → ℕ
readable room bytes place = min room (bytes - place)

-- The answer to a read of a file, from a place on, into a buffer that held `old`, and what the buffer holds then: the bytes
-- that were read, and behind them what it held.
pub record FileRead {E : Type 0} (c : Card) (head bytes place : ℕ) (old : List ℕ) (r : Result ℕ E) (out : List ℕ) : Type 0 where
  pub count : r ≡ Ok (readable (length old) bytes place)
  pub holds : out ≡ part (file_bytes c head bytes) place (readable (length old) bytes place) ++ drop (readable (length old) bytes place) old

-- why a read is refused before a block is read: the card is dark, or is none; no file has so many bytes
unfoldable pub refused_for : Card → ℕ → Option What
refused_for c bytes = cond c.dark (Some Dark) (cond (is_size c.size (length c.blocks)) (cond (nat_le 1 bytes && nat_le bytes file_limit) None (Some Tag)) (Some Size))

-- a read that is refused for one of these reasons tells the reason, and leaves the buffer as it was
pub record Refused {E : Type 0} (c : Card) (bytes : ℕ) (tells : What → E) (old : List ℕ) (r : Result ℕ E) (out : List ℕ) : Type 0 where
  pub told : (w : What) → refused_for c bytes ≡ Some w → r ≡ Err (tells w)
  pub kept : (w : What) → refused_for c bytes ≡ Some w → out ≡ old

-- WHAT A READ OF A FILE ANSWERS: where nothing is wrong with the file, the bytes; and a refusal before a block is read
pub record ReadsFile {E : Type 0} (c : Card) (head bytes place : ℕ) (tells : What → E) (old : List ℕ) (r : Result ℕ E) (out : List ℕ) : Type 0 where
  pub sound : (seen : List ℕ) → verdict c seen head bytes ≡ None → FileRead c head bytes place old r out
  pub refused : Refused c bytes tells old r out
