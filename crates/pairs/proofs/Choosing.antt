-- Reading blocks of a card, and choosing between two.
use Rattle.std.proofs.Common.{◌≡◌, ℕ, ◌<◌, ◌≤◌, Bool, true, false, eqb, leb, List, [], length, Some, None, Ok, Err, Result, sym, refl, ap, ◌∙◌, subst, ⊎_elim, arith}
use Rattle.std.specs.Option.{option_map}
use Rattle.std.proofs.lemmas.List.{take_all}
use Rattle.std.proofs.lemmas.Bool.{cond-true, cond-false, le-leb, lt-leb, eq-eqb, ne_eqb, eqb-false, cases_eq}
use Rattle.std.proofs.lemmas.Bool.Decides.{nat_tests}
use Rattle.flash.specs.Card.{Card, Shaped, bytes}
use Rattle.flash.specs.Device.{read_refusal}
use Rattle.metalog.specs.Log.{Entry, Log, part, items_of, commits_of, log_of}
use Rattle.metalog.specs.Revision.{newer}
use Rattle.metalog.specs.Tag.{le32}
use Rattle.metalog.specs.declared.reader.Survey.{Survey}
use Rattle.metalog.proofs.Logs.{log_some, log_commits}
use Rattle.volume.specs.Fault.{fault_of}
use Rattle.volume.specs.State.{Folded}
use Rattle.volume.specs.Pair.{fault, judged, finished_of, is_empty, Pair, Choice, chosen, choice, read_at, read_by, read_pair}
use Rattle.volume.specs.Pair as choices
use Rattle.volume.specs.declared.fault.Fault.{Fault}
use Rattle.volume.specs.declared.fault.What.{What}
use Rattle.volume.specs.declared.fault.What.TheVariants.{Size}
use Rattle.pairs.specs.declared.choice.Side.{Side}
use Rattle.pairs.specs.declared.choice.Side.TheVariants.{First, Second}
use Rattle.pairs.specs.declared.pair.PairReader.{PairReader}
use Rattle.pairs.specs.Pairs.{side_for, block_read, unless, pair_at, Surveyed, Judges, PairReads}
use Rattle.pairs.proofs.Ends.{empty_none, empty_some}

pub block_there : (c : Card) (b n : ℕ) → read_refusal c b 0 n ≡ None → b < length c.blocks
unfolding read_refusal
block_there c b n h = grind (arith, nat_tests)

pub surveyed : (c : Card) (b n : ℕ) (s : Survey) (out : List ℕ) → Shaped c → n ≡ c.size → read_refusal c b 0 n ≡ None → out ≡ part (bytes c b) 0 n → s.revision ≡ (log_of out).revision → s.commits ≡ length (log_of out).commits → Surveyed c b s out
surveyed c b n s out shaped size there is revision commits =
    let long = shaped.long b (block_there c b n there) in
    let content : out ≡ bytes c b = is ∙ take_all n (bytes c b) (omega arith) in
    record {
      readable = ap (λ (k : ℕ). option_map fault_of (read_refusal c b 0 k)) (sym size) ∙ ap (option_map fault_of) there;
      long = long;
      content = content;
      revision = revision ∙ ap (λ xs. (log_of xs).revision) content;
      commits = commits ∙ ap (λ xs. length (log_of xs).commits) content;
    }

-- ---- the choice between two blocks

-- what a log is in short, in the words of the choice
record Short (xs : List ℕ) (s : Survey) : Type 0 where
  empty : eqb s.commits 0 ≡ is_empty (finished_of xs)
  revision : eqb s.commits 0 ≡ false → s.revision ≡ le32 xs 0

short : (xs : List ℕ) (s : Survey) → s.revision ≡ (log_of xs).revision → s.commits ≡ length (log_of xs).commits → Short xs s
short xs s revision commits =
    let cs : List (List Entry) = commits_of [] (items_of xs) in
    let count : s.commits ≡ length cs = commits ∙ ap length (log_commits (le32 xs 0) cs) in
    record {
      empty = ⊎_elim (λ none. eq-eqb s.commits 0 none ∙ sym (empty_none (items_of xs) (omega (arith, count, none)))) (λ some. ne_eqb s.commits 0 some ∙ sym (empty_some (items_of xs) (omega (arith, count, some)))) (cases_eq s.commits 0);
      revision = λ some. revision ∙ ap (λ (l : Log). l.revision) (log_some (le32 xs 0) cs (omega (arith, count, eqb-false s.commits 0 some)));
    }

-- revisions matter only where both have a finished commit
chosen_same : (e f n m n' m' : Bool) → (e ≡ false → f ≡ false → n ≡ n') → (e ≡ false → f ≡ false → m ≡ m') → chosen e f n m ≡ chosen e f n' m'
chosen_same true true n m n' m' p q = refl
chosen_same true false n m n' m' p q = refl
chosen_same false true n m n' m' p q = refl
chosen_same false false n m n' m' p q = ap (λ v. chosen false false v m) (p refl refl) ∙ ap (λ v. chosen false false n' v) (q refl refl)

pub chosen_is : (c : Card) (a b : ℕ) (p q : Survey) (xs ys : List ℕ) → Surveyed c a p xs → Surveyed c b q ys → chosen (eqb p.commits 0) (eqb q.commits 0) (newer p.revision q.revision) (newer q.revision p.revision) ≡ choice (bytes c a) (bytes c b)
chosen_is c a b p q xs ys s t =
    let x = bytes c a in
    let y = bytes c b in
    let u = short x p s.revision s.commits in
    let v = short y q t.revision t.commits in
    let e = eqb p.commits 0 in
    let f = eqb q.commits 0 in
    chosen_same e f (newer p.revision q.revision) (newer q.revision p.revision) (newer (le32 x 0) (le32 y 0)) (newer (le32 y 0) (le32 x 0))
    (λ i j. ap (λ r. newer r q.revision) (u.revision i) ∙ ap (newer (le32 x 0)) (v.revision j)) (λ i j. ap (λ r. newer r p.revision) (v.revision j) ∙ ap (newer (le32 y 0)) (u.revision i))
    ∙ ap (λ k. chosen k f (newer (le32 x 0) (le32 y 0)) (newer (le32 y 0) (le32 x 0))) u.empty
    ∙ ap (λ k. chosen (is_empty (finished_of x)) k (newer (le32 x 0) (le32 y 0)) (newer (le32 y 0) (le32 x 0))) v.empty

-- what a choice between two blocks comes to
abbrev pub read_on : Result Side What → Card → ℕ → ℕ → Result Pair Fault
read_on (Ok First) c a b = read_at c a b a
read_on (Ok Second) c a b = read_at c a b b
read_on (Err w) c a b = Err (fault w a 0)

by_side : (k : Choice) (c : Card) (a b : ℕ) → read_by k c a b ≡ read_on (side_for k) c a b
by_side choices.first c a b = refl
by_side choices.second c a b = refl
by_side choices.no_commit c a b = refl
by_side choices.no_newer c a b = refl

-- ---- the ways of reading a pair

pub pair_large : (c : Card) (a b : ℕ) → 4096 < c.size → pair_at c a b ≡ Err (fault Size 0 0)
unfolding pair_at
pair_large c a b gt = cond-false (leb c.size 4096) _ (Err (fault Size 0 0)) (lt-leb c.size 4096 gt)

module _ (c : Card) (a b : ℕ) (le : c.size ≤ 4096) where
  small : pair_at c a b ≡ unless (block_read c a) (unless (block_read c b) (read_pair c a b))
  unfolding pair_at
  small = cond-true (leb c.size 4096) (unless (block_read c a) (unless (block_read c b) (read_pair c a b))) (Err (fault Size 0 0)) (le-leb c.size 4096 le)

  pub pair_first : (f : Fault) → block_read c a ≡ Some f → pair_at c a b ≡ Err f
  pair_first f is = small ∙ ap (λ o. unless o (unless (block_read c b) (read_pair c a b))) is

  pub pair_second : (f : Fault) → block_read c a ≡ None → block_read c b ≡ Some f → pair_at c a b ≡ Err f
  pair_second f can is = small ∙ ap (λ o. unless o (unless (block_read c b) (read_pair c a b))) can ∙ ap (λ o. unless o (read_pair c a b)) is

  pub pair_read : block_read c a ≡ None → block_read c b ≡ None → pair_at c a b ≡ read_pair c a b
  pair_read can may = small ∙ ap (λ o. unless o (unless (block_read c b) (read_pair c a b))) can ∙ ap (λ o. unless o (read_pair c a b)) may

  -- by the side that the code chose
  pub pair_by : (p q : Survey) (xs ys : List ℕ) (r : Result Side What) → Surveyed c a p xs → Surveyed c b q ys → r ≡ side_for (chosen (eqb p.commits 0) (eqb q.commits 0) (newer p.revision q.revision) (newer q.revision p.revision)) → pair_at c a b ≡ read_on r c a b
  unfolding read_pair
  pair_by p q xs ys r s t is =
      let k = chosen (eqb p.commits 0) (eqb q.commits 0) (newer p.revision q.revision) (newer q.revision p.revision) in
      pair_read s.readable t.readable ∙ ap (λ (j : Choice). read_by j c a b) (sym (chosen_is c a b p q xs ys s t)) ∙ by_side k c a b ∙ ap (λ (r : Result Side What). read_on r c a b) (sym is)

-- a device that is not dark, of blocks that are not too large, and two blocks of it: then a pair is what its definition says
pub pair_at_lem : (c : Card) (a b : ℕ) → c.dark ≡ false → c.size ≤ 4096 → a < length c.blocks → b < length c.blocks → pair_at c a b ≡ read_pair c a b
unfolding read_refusal
pair_at_lem c a b lit le there here =
    let first : read_refusal c a 0 c.size ≡ None = grind (arith, nat_tests) in
    let second : read_refusal c b 0 c.size ≡ None = grind (arith, nat_tests) in
    pair_read c a b le (ap (option_map fault_of) first) (ap (option_map fault_of) second)

-- the answer of a call that the reading ends with
pub reads_as : (c : Card) (a b block : ℕ) (folded : Folded) (r : Result ℕ Fault) (s : PairReader) → pair_at c a b ≡ judged a b block folded → Judges a b block folded r s → PairReads c a b r s
reads_as c a b block folded (Ok n) s is j = is ∙ j
reads_as c a b block folded (Err f) s is j = is ∙ j

pub reads_fault : (c : Card) (a b : ℕ) (r : Result ℕ Fault) (f : Fault) (s : PairReader) → r ≡ Err f → pair_at c a b ≡ Err f → PairReads c a b r s
reads_fault c a b r f s is e = subst (λ (q : Result ℕ Fault). PairReads c a b q s) (sym is) e
