-- An empty card: what its superblock holds, and what is in its root pair.
use Rattle.std.specs.Prelude.{◌≡◌, ℕ, List, [], ◌∷◌, ◌++◌, length, replicate, Ok, Err, Result}
use Rattle.flash.specs.Card.{Card, put}
use Rattle.flash.specs.Runs.{filled}
use Rattle.flash.specs.declared.Refusal.{Refusal}
use Rattle.metalog.specs.Tag.{le4}
use Rattle.metalog.specs.Commit.{Piece}
use Rattle.metalog.specs.Laws.{first_bytes}

-- version 2.0, block size, block count, longest name, largest file, largest attribute
abbrev pub superblock_bytes : ℕ → ℕ → List ℕ
superblock_bytes size count = le4 0x00020000 ++ (le4 size ++ (le4 count ++ (le4 64 ++ (le4 1048576 ++ le4 1022))))

-- the entry with which a root pair begins: the name "littlefs" and the six words
abbrev pub superblock_entry : ℕ → ℕ → List Piece
superblock_entry size count =
    record { kind = 0x0ff; id = 0; bytes = 108 ∷ 105 ∷ 116 ∷ 116 ∷ 108 ∷ 101 ∷ 102 ∷ 115 ∷ [] }
    ∷ record { kind = 0x201; id = 0; bytes = superblock_bytes size count } ∷ []

-- the card with the root pair of an empty one: revision 1 and the superblock in block 0, and block 1 erased
abbrev pub emptied : Card → Card
emptied c = put (put c 1 (replicate c.size 0xff)) 0 (filled c (first_bytes 1 (superblock_entry c.size (length c.blocks))))

-- where the root pair could be written, that is what the card is then
abbrev pub Emptied : {T : Type 0} → Card → Result T Refusal → Card → Type 0
Emptied c (Ok _) d = d ≡ emptied c
Emptied c (Err e) d = Unit {0}
