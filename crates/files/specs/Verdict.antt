-- What is wrong with a file of a card, and what a check of it answers.
use Rattle.std.specs.Prelude.{◌≡◌, ℕ, cond, ◌&&◌, List, ◌++◌, length, Some, None, Ok, Err, Option, Result, nat_le}
use Rattle.blockset.specs.declared.BlockSet.{BlockSet}
use Rattle.flash.specs.Card.{Card}
use Rattle.skiplist.specs.Places.{file_limit}
use Rattle.volume.specs.Files.{file_blocks, file_fault}
use Rattle.volume.specs.Check.{is_size}
use Rattle.volume.specs.declared.fault.What.{What}
use Rattle.volume.specs.declared.fault.What.TheVariants.{Dark, Size, Tag}
use Rattle.volume.specs.Marks.{Marks}

-- What is wrong with a file, from its last block and its number of bytes, where the blocks of `seen` serve already: the card
-- is dark, or is none; no file has so many bytes; a block or a word of it is not as it should be.
unfoldable pub verdict : Card → List ℕ → ℕ → ℕ → Option What
verdict c seen head bytes =
    cond c.dark (Some Dark)
    (cond (is_size c.size (length c.blocks)) (cond (nat_le 1 bytes && nat_le bytes file_limit) (file_fault c seen head bytes) (Some Tag)) (Some Size))

-- The answer to a check of a file, and the set then: nothing is wrong, and the file's blocks serve too; or what is wrong.
abbrev pub FileChecked : {T : Type 0} → Card → List ℕ → ℕ → ℕ → Result T What → BlockSet → Type 0
FileChecked c seen head bytes (Ok _) s = (verdict c seen head bytes ≡ None) × Marks s (file_blocks c head bytes ++ seen)
FileChecked c seen head bytes (Err w) s = verdict c seen head bytes ≡ Some w
