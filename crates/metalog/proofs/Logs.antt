-- A log is empty exactly where it has no finished commit.
use Rattle.std.proofs.Common.{◌≡◌, ℕ, ◌<◌, ◌≤◌, ltb, List, [], ◌∷◌, length, take, sym, refl, ap, ◌∙◌, ⊎_elim, arith}
use Rattle.std.proofs.lemmas.Bool.{cond-true, lt-ltb, cases_lt}
use Rattle.metalog.specs.Crc.{crc_of}
use Rattle.metalog.specs.Tag.{le32}
use Rattle.metalog.specs.Log.{Entry, Log, at, nowhere, step, start, items_of, commits_of, log_from, log_of, empty_log, first_prior, seed}
use Rattle.metalog.proofs.Turns.{items_none}

pub log_some : (revision : ℕ) (xs : List (List Entry)) → 0 < length xs → log_from revision xs ≡ record { revision = revision; commits = xs }
log_some revision [] h = absurd (omega arith)
log_some revision (x ∷ xs) h = refl

pub log_none : (revision : ℕ) (xs : List (List Entry)) → length xs ≡ 0 → log_from revision xs ≡ empty_log
log_none revision [] h = refl
log_none revision (x ∷ xs) h = absurd (omega arith)

pub log_commits : (revision : ℕ) (xs : List (List Entry)) → (log_from revision xs).commits ≡ xs
log_commits revision [] = refl
log_commits revision (x ∷ xs) = refl

-- a block too short for a revision word has no log
pub short_block : (b : List ℕ) → length b < 4 → items_of b ≡ []
unfolding start step
short_block b h =
    items_none (length b) b (start b) (ap (λ c. (step b c).item) (cond-true (ltb (length b) 4) nowhere (at 4 first_prior (crc_of seed (take 4 b))) (lt-ltb (length b) 4 h)))

-- a block with a finished commit has room for a revision word
pub room : (b : List ℕ) → 0 < length (commits_of [] (items_of b)) → 4 ≤ length b
room b some = ⊎_elim (λ short. absurd (omega (arith, some, ap (λ xs. length (commits_of [] xs)) (short_block b short)))) (λ long. long) (cases_lt (length b) 4)

-- what a survey says of a log
pub record Sums (b : List ℕ) (revision commits : ℕ) : Type 0 where
  pub revision_is : revision ≡ (log_of b).revision
  pub commits_is : commits ≡ length (log_of b).commits

module _ (b : List ℕ) (n : ℕ) (all : n ≡ length (commits_of [] (items_of b))) where
  -- a log has its revision where it has a finished commit
  pub sums_some : 0 < n → Sums b (le32 b 0) n
  sums_some some = record {
    revision_is = sym (ap (λ (l : Log). l.revision) (log_some (le32 b 0) (commits_of [] (items_of b)) (omega arith)));
    commits_is = all ∙ sym (ap length (log_commits (le32 b 0) (commits_of [] (items_of b))));
  }

  pub sums_none : n ≤ 0 → Sums b 0 n
  sums_none none = record {
    revision_is = sym (ap (λ (l : Log). l.revision) (log_none (le32 b 0) (commits_of [] (items_of b)) (omega arith)));
    commits_is = all ∙ sym (ap length (log_commits (le32 b 0) (commits_of [] (items_of b))));
  }
