-- What the parts of the scan of a tree promise: the blocks of an entry, its name, the directory that it leads to.
use Rattle.std.specs.Prelude.{◌≡◌, ℕ, Bool, true, false, ◌||◌, List, [], ◌∷◌, ◌++◌, Some, None, Ok, Err, Option, Result, ◌==◌, slice_index_or}
use Rattle.blockset.specs.declared.BlockSet.{BlockSet}
use Rattle.flash.specs.Card.{Card}
use Rattle.metalog.specs.Log.{part}
use Rattle.volume.specs.Check.{Met, Fit, file_inline, file_skip, dir_pair, extra_superblock, unfit, content_fault, name_fault}
use Rattle.volume.specs.Files.{file_blocks}
use Rattle.volume.specs.Marks.{Marks}
use Rattle.volume.specs.Pair.{Pair}
use Rattle.volume.specs.Rows.{no_row, rows_of}
use Rattle.volume.specs.State.{Struct, pair, inline, skip}
use Rattle.volume.specs.Thread.{member}
use Rattle.volume.specs.Tree.{Name}
use Rattle.volume.specs.declared.fault.What.{What}
use Rattle.volume.specs.declared.fault.What.TheVariants.{Directory, Entry, SuperblockElsewhere}
use Rattle.reader.specs.Names.{last_of}
use Rattle.reader.specs.Outcomes.{Outcome, faulty, ends, leads}
use Rattle.reader.specs.declared.judge.Fitted.{Fitted}
use Rattle.reader.specs.declared.judge.Fitted.TheVariants as fitted
use Rattle.reader.specs.declared.judge.Scanner.{Scanner}
use Rattle.reader.specs.declared.last.LastName.{LastName}

-- ---- the blocks that an entry names

-- the blocks that serve a file
abbrev pub own_blocks : Card → Option Struct → List ℕ
own_blocks c None = []
own_blocks c (Some (pair a b)) = []
own_blocks c (Some (inline xs)) = []
own_blocks c (Some (skip h n)) = file_blocks c h n

abbrev pub BlocksChecked : {T : Type 0} → Card → List ℕ → Option Struct → Result T What → BlockSet → Type 0
BlocksChecked c seen s (Ok _) t = (content_fault c seen s ≡ None) × Marks t (own_blocks c s ++ seen)
BlocksChecked c seen s (Err w) t = content_fault c seen s ≡ Some w

-- ---- whether name and content fit

-- a file of this name
abbrev pub FileNamed : Fit → Name → Type 0
FileNamed (file_inline k xs) n = k ≡ n
FileNamed (file_skip k h size) n = k ≡ n
FileNamed (dir_pair k a b) n = ⊥
FileNamed extra_superblock n = ⊥
FileNamed unfit n = ⊥

-- an entry that does not fit, and why
abbrev pub FitsNot : Fit → What → Type 0
FitsNot (file_inline k xs) w = ⊥
FitsNot (file_skip k h size) w = ⊥
FitsNot (dir_pair k a b) w = ⊥
FitsNot extra_superblock w = w ≡ SuperblockElsewhere
FitsNot unfit w = w ≡ Entry

-- a name that fits, by where it stands in the bytes b, and the pair of a directory; or what is wrong
abbrev pub FitsAs : List ℕ → Fit → Result Fitted What → Type 0
FitsAs b f (Ok (fitted.File n)) = FileNamed f (part b n.at n.length)
FitsAs b f (Ok (fitted.Directory n p)) = f ≡ dir_pair (part b n.at n.length) p.first p.second
FitsAs b f (Err w) = FitsNot f w

-- ---- the name

abbrev pub NameTaken : {T : Type 0} → Bool → Option Name → Name → Result T What → LastName → Type 0
NameTaken deep last n (Ok _) l = (name_fault deep last n ≡ None) × (last_of l ≡ Some n)
NameTaken deep last n (Err w) l = name_fault deep last n ≡ Some w

-- ---- the directory

-- the k-th pair of the list is the first of the n-th directory
pub record StartsAt (ps : List Pair) (k n : ℕ) : Type 0 where
  pub first : (slice_index_or (rows_of ps) k no_row).first ≡ true
  pub number : (slice_index_or (rows_of ps) k no_row).dir ≡ n

-- a directory may not be entered: it is none of the list, the root, or named already
abbrev pub barred : Option ℕ → List ℕ → Bool
barred None dirs = true
barred (Some n) dirs = n == 0 || member n dirs

pub record DirEntered (ps : List Pair) (dirs : List ℕ) (to : Option ℕ) (k : ℕ) (t : BlockSet) : Type 0 where
  pub number : ℕ
  pub to_it : to ≡ Some number
  pub free : barred (Some number) dirs ≡ false
  pub starts : StartsAt ps k number
  pub marks : Marks t (number ∷ dirs)

abbrev pub DirEnters : List Pair → List ℕ → Option ℕ → Result ℕ What → BlockSet → Type 0
DirEnters ps dirs to (Ok k) t = DirEntered ps dirs to k t
DirEnters ps dirs to (Err w) t = (w ≡ Directory) × (barred to dirs ≡ true)

-- ---- one entry

-- the sets hold what was met
pub record Holds (met : Met) (s : Scanner) : Type 0 where
  pub used : Marks s.used met.seen
  pub named : Marks s.named met.dirs

-- what an entry came to
abbrev pub Judged : List Pair → Outcome → Result (Option ℕ) What → LastName → Scanner → Type 0
Judged ps o (Err w) l s = o ≡ faulty w
Judged ps o (Ok None) l s = (n : Name) × ((xs : List ℕ) × ((m : Met) × ((o ≡ ends n xs m) × ((last_of l ≡ Some n) × Holds m s))))
Judged ps o (Ok (Some k)) l s = (n : Name) × ((j : ℕ) × ((m : Met) × ((o ≡ leads n j m) × ((last_of l ≡ Some n) × (StartsAt ps k j × Holds m s)))))
