-- What a tag does to the state that a table stands for.
use Rattle.std.specs.Prelude.{◌≡◌, ℕ, ◌+◌, cond, List, ◌∷◌, [], length, Some, None, Ok, Err, Result, MatchResult, ◌==◌}
use Rattle.metalog.specs.Log.{Entry, part}
use Rattle.metalog.specs.Tag.{le32}
use Rattle.volume.specs.State as volume
use Rattle.volume.specs.State.{inserts, removes, names, points, holds, skips, tails, moves, unknown, applied, effect_of}
use Rattle.pairs.specs.declared.tags.Effect.{Effect}
use Rattle.pairs.specs.declared.tags.Effect.TheVariants.{Inserts, Removes, Names, Points, Holds, Skips, Tails, Moves}
use Rattle.pairs.specs.declared.tags.Misplaced.{Misplaced}
use Rattle.pairs.specs.declared.table.Table.{Table}
use Rattle.pairs.specs.Slots.{kind_of}
use Rattle.pairs.specs.Tables.{state_of}

-- what a type of tag does, as the code has it
abbrev pub effect_for : Effect → volume.Effect
effect_for Inserts = inserts
effect_for Removes = removes
effect_for (Names k) = names (kind_of k)
effect_for Points = points
effect_for Holds = holds
effect_for Skips = skips
effect_for (Tails h) = tails h
effect_for Moves = moves

-- what a tag of this type does, or it must not be there
abbrev pub Decodes : ℕ → Result Effect Misplaced → Type 0
Decodes kind r = MatchResult r (λ e. effect_of kind ≡ effect_for e) (λ _. effect_of kind ≡ unknown)

-- eight bytes as two words
abbrev pub two_words : List ℕ → Result (List ℕ) Misplaced
two_words xs = cond (length xs == 8) (Ok (le32 xs 0 ∷ le32 xs 4 ∷ [])) (Err (record {}))

-- What a tag of an effect, with this id and these data, did to the table t: it became u; or the tag must not be there.
-- It holds over every block that has the data at the place `at`.
abbrev pub Changes : Table → volume.Effect → ℕ → ℕ → List ℕ → Result (Unit {0}) Misplaced → Table → Type 0
Changes t e i at xs (Ok _) u = (b : List ℕ) → part b at (length xs) ≡ xs → applied (state_of b t) e i xs ≡ Some (state_of b u)
Changes t e i at xs (Err _) u = (b : List ℕ) → part b at (length xs) ≡ xs → applied (state_of b t) e i xs ≡ None

-- the same of a tag as it was read, whose data stand behind its four bytes
abbrev pub Applies : Table → Entry → Result (Unit {0}) Misplaced → Table → Type 0
Applies t e r u = Changes t (effect_of e.kind) e.id (e.offset + 4) e.bytes r u
