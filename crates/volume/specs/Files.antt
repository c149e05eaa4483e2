-- The blocks of a skip-list file, and its bytes.
use Rattle.std.specs.Prelude.{ℕ, zero, suc, ◌-◌, ◌*◌, ◌^◌, Bool, true, cond, ◌&&◌, List, [], ◌∷◌, ◌++◌, length, take, drop, Some, None, Option, ◌==◌, slice_index}
use Rattle.flash.specs.Card.{Card, bytes}
use Rattle.metalog.specs.Tag.{le32}
use Rattle.skiplist.specs.Layout.{pointers_of, header_of}
use Rattle.skiplist.specs.Places.{block_of}
use Rattle.volume.specs.Thread.{usable, member, first_of}
use Rattle.volume.specs.declared.fault.What.{What}
use Rattle.volume.specs.declared.fault.What.TheVariants.{EntryBlock, BlockTwice, FileWord}

-- The blocks of a file of n + 1 blocks whose last one is h, in their order: the first word of each names the one before it.
unfoldable pub chain : ℕ → Card → ℕ → List ℕ
chain zero c h = h ∷ []
chain (suc n) c h = chain n c (le32 (bytes c h) 0) ++ h ∷ []

-- one block of a file: it must be usable, and serve nothing yet
abbrev pub checked : Card → List ℕ → ℕ → Option What → Option What
checked c seen h rest = cond (usable c h) (cond (member h seen) (Some BlockTwice) rest) (Some EntryBlock)

-- what is wrong with the blocks, from the last one back
unfoldable pub chain_fault : ℕ → Card → List ℕ → ℕ → Option What
chain_fault zero c seen h = checked c seen h None
chain_fault (suc n) c seen h = checked c seen h (chain_fault n c (h ∷ seen) (le32 (bytes c h) 0))

-- whether the first n words of the file's block i name the blocks that they should
abbrev pub right_words : Card → List ℕ → ℕ → ℕ → Bool
right_words c bs i zero = true
right_words c bs i (suc k) = le32 (bytes c (slice_index bs i)) (4 * k) == slice_index bs (i - 2 ^ k) && right_words c bs i k

-- whether all words of the file's first n blocks do
abbrev pub all_right : Card → List ℕ → ℕ → Bool
all_right c bs zero = true
all_right c bs (suc i) = right_words c bs i (pointers_of i) && all_right c bs i

abbrev pub word_fault : Card → List ℕ → Option What
word_fault c bs = cond (all_right c bs (length bs)) None (Some FileWord)

-- what the blocks hold besides their words, from the file's block i on
abbrev pub content_from : Card → ℕ → List ℕ → List ℕ
content_from c i [] = []
content_from c i (b ∷ bs) = drop (header_of i) (bytes c b) ++ content_from c (suc i) bs

-- the blocks of a file and its bytes, from its last block and its size
abbrev pub file_blocks : Card → ℕ → ℕ → List ℕ
file_blocks c head size = chain (block_of c.size (size - 1)) c head

abbrev pub file_bytes : Card → ℕ → ℕ → List ℕ
file_bytes c head size = take size (content_from c 0 (file_blocks c head size))

-- what is wrong with a file
unfoldable pub file_fault : Card → List ℕ → ℕ → ℕ → Option What
file_fault c seen head size = first_of (chain_fault (block_of c.size (size - 1)) c seen head) (word_fault c (file_blocks c head size))
