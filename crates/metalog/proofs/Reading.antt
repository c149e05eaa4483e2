-- The laws of writing and reading: what is written is read again, whole or not at all.
use Rattle.std.proofs.Common.{◌≡◌, ℕ, zero, suc, ◌+◌, ◌-◌, ◌*◌, ◌/◌, ◌%◌, ◌^◌, ◌<◌, ◌≤◌, ltb, ◌⊎◌, List, [], ◌∷◌, ◌++◌, length, get_or, take, drop, replicate, sym, refl, ap, ◌∙◌, subst, inl, inr, ⊎_elim, append_assoc, append-nil, arith, lit<, length-append, take-append-drop}
use lib.Bits.{bit_xor}
use Rattle.std.specs.List.{AllByRecursion}
use Rattle.std.proofs.lemmas.List.{length-take, length-take-le, length-replicate, drop_at, take_at, take-take, get_or-take, get_or-replicate}
use Rattle.std.proofs.ByRecursion.{All-append}
use Rattle.std.proofs.lemmas.Bool.{cond-false, le-ltb, cases_lt}
use Rattle.metalog.specs.Crc.{crc_of}
use Rattle.metalog.specs.Tag.{ends_commit, be32, le32, be4, le4}
use Rattle.metalog.specs.Log.{Entry, Item, Log, Cursor, at, nowhere, End, seed, first_prior, holding, entry_at, part, step, items, items_of, start, commits_of, log_from, log_of, empty_log, end_of, no_end}
use Rattle.metalog.specs.Commit.{Piece, Sound, tag_of, body, last_of, ending, pad_of, end_bytes, encode, entries}
use Rattle.metalog.specs.Laws.{erased_behind, first_bytes, FirstReads, FirstTorn, extended, Appendable, appended, next_bytes, AppendReads, AppendTorn, HalfErased}
use Rattle.metalog.proofs.Words.{crc_append, crc_lt, be4_small, by_bytes, flip}
use Rattle.metalog.proofs.Logs.{log_some, log_none, log_commits, short_block}
use Rattle.metalog.proofs.Views.{View, stops, holds, ends, view, found, Same, same_le32}
use Rattle.metalog.proofs.Paths.{Path, path_items, path_far, path_inside, path_same, unfinished, commits_join, Unfinished, Finished, tail}
use Rattle.metalog.proofs.Quiet.{Quiet, Single, AtMost, Calm, quiet_halt, quiet_held, quiet_erased, contrary}
use Rattle.metalog.proofs.Pieces.{erased_past}
use Rattle.metalog.proofs.Commits.{whole, torn}

-- ---- the bytes of a commit

body_small : (prior : ℕ) (ps : List Piece) → AllByRecursion Sound ps → AllByRecursion (λ x. x < 256) (body prior ps)
unfolding body
body_small prior [] s = tt
body_small prior (p ∷ ps) s = All-append (λ x. x < 256) (be4 (bit_xor (tag_of p) prior)) (p.bytes ++ body (tag_of p) ps) (be4_small (bit_xor (tag_of p) prior)) (All-append (λ x. x < 256) p.bytes (body (tag_of p) ps) s.0.small (body_small (tag_of p) ps s.1))

le4_small : (w : ℕ) → AllByRecursion (λ x. x < 256) (le4 w)
le4_small w = (omega arith, (omega arith, (omega arith, (omega arith, tt))))

le32_first : (w : ℕ) (xs : List ℕ) → w < 2 ^ 32 → le32 (le4 w ++ xs) 0 ≡ w
le32_first w xs h = flip (w % 256) (w / 2 ^ 8 % 256 * 2 ^ 8) (w / 2 ^ 16 % 256 * 2 ^ 16) (w / 2 ^ 24 % 256 * 2 ^ 24) ∙ by_bytes w h

-- A commit's bytes at i, with 0xff behind them: the commit is read, and no other.
pub encoded : (front b : List ℕ) (i prior : ℕ) (ps : List Piece) (k : ℕ) → AllByRecursion (λ x. x < 256) front → AllByRecursion Sound ps → prior < 2 ^ 32
    → drop i b ≡ encode front prior ps ++ replicate k 0xff → Single b (at i prior (crc_of seed front)) i (entries i ps)
unfolding encode end_bytes
encoded front b i prior ps k sf s hp e =
    let bs = body prior ps in
    let pad = pad_of (length (front ++ bs)) in
    let w = bit_xor (ending pad) (last_of prior ps) in
    let word = crc_of seed ((front ++ bs) ++ be4 w) in
    let small : pad < 16 = omega arith in
    let low : word < 2 ^ 32 = crc_lt seed ((front ++ bs) ++ be4 w) (lit< tt) (All-append (λ x. x < 256) (front ++ bs) (be4 w) (All-append (λ x. x < 256) front bs sf (body_small prior ps s)) (be4_small w)) in
    let right : word ≡ crc_of (crc_of (crc_of seed front) bs) (be4 w) = crc_append seed (front ++ bs) (be4 w) ∙ ap (λ c. crc_of c (be4 w)) (crc_append seed front bs) in
    whole ps b i prior (crc_of seed front) pad word k s hp small low right
    (e ∙ append_assoc bs (be4 w ++ (le4 word ++ replicate pad 0xff)) (replicate k 0xff) ∙ ap (λ l. bs ++ (be4 w ++ l)) (append_assoc (le4 word) (replicate pad 0xff) (replicate k 0xff)))

-- The first m of them: the commit is read, or none.
pub encoded_torn : (front b : List ℕ) (i prior : ℕ) (ps : List Piece) (m k : ℕ) → AllByRecursion Sound ps → prior < 2 ^ 32 → (m ≡ 0 → Quiet b (at i prior (crc_of seed front)))
    → drop i b ≡ take m (encode front prior ps) ++ replicate k 0xff → AtMost b (at i prior (crc_of seed front)) i (entries i ps)
unfolding encode end_bytes
encoded_torn front b i prior ps m k s hp blank e =
    let bs = body prior ps in
    let pad = pad_of (length (front ++ bs)) in
    let w = bit_xor (ending pad) (last_of prior ps) in
    let word = crc_of seed ((front ++ bs) ++ be4 w) in
    let zs = le4 word ++ replicate pad 0xff in
    torn ps b i prior (crc_of seed front) pad m k zs s hp (omega arith) (omega (arith, length-replicate {A = ℕ} pad 0xff)) blank e

-- ---- the first commit of a block

start_at : (b : List ℕ) → 4 ≤ length b → start b ≡ at 4 first_prior (crc_of seed (take 4 b))
unfolding start
start_at b h = cond-false (ltb (length b) 4) nowhere (at 4 first_prior (crc_of seed (take 4 b))) (le-ltb (length b) 4 h)

-- the log of a block, by what is read behind its revision word
log_quiet : (b : List ℕ) (c : Cursor) → start b ≡ c → Quiet b c → log_of b ≡ empty_log
log_quiet b c e q = log_none (le32 b 0) (commits_of [] (items_of b)) (ap length (ap (λ k. commits_of [] (items (length b) b k)) e ∙ q.none (length b) []))

log_single : (b : List ℕ) (c : Cursor) (i : ℕ) (es : List Entry) → start b ≡ c → Single b c i es → log_of b ≡ record { revision = le32 b 0; commits = es ∷ [] }
log_single b c i es e q = ap (log_from (le32 b 0)) (ap (λ k. commits_of [] (items (length b) b k)) e ∙ q.one (length b) [] (omega arith))

pub first_reads : FirstReads
first_reads revision ps n h s =
    let rev = le4 revision in
    let xs = encode rev first_prior ps in
    let b = erased_behind (first_bytes revision ps) n in
    let whole_block : b ≡ rev ++ (xs ++ replicate n 0xff) = append_assoc rev xs (replicate n 0xff) in
    let four : 4 ≤ length b = omega (arith, ap length whole_block, length-append xs (replicate n 0xff)) in
    let begins : start b ≡ at 4 first_prior (crc_of seed rev) = start_at b four in
    log_single b (at 4 first_prior (crc_of seed rev)) 4 (entries 4 ps) begins (encoded rev b 4 first_prior ps n (le4_small revision) s (lit< tt) refl)
    ∙ ap (λ r. record { revision = r; commits = entries 4 ps ∷ [] }) (le32_first revision (xs ++ replicate n 0xff) h)

calm_first : Calm first_prior
calm_first h = refl

-- a block of which at most the revision word is there
unbegun : (b ys : List ℕ) (n : ℕ) → b ≡ ys ++ replicate n 0xff → length ys ≤ 4 → log_of b ≡ empty_log
unbegun b ys n e h =
    ⊎_elim
    (λ short. log_none (le32 b 0) (commits_of [] (items_of b)) (ap (λ xs. length (commits_of [] xs)) (short_block b short)))
    (λ long. log_quiet b (at 4 first_prior (crc_of seed (take 4 b))) (start_at b long) (quiet_erased b 4 (n - (4 - length ys)) first_prior (crc_of seed (take 4 b)) (erased_past b 0 4 n ys e h) calm_first))
    (cases_lt (length b) 4)

pub first_torn : FirstTorn
first_torn revision ps zero n h s = inl (unbegun _ [] n refl (omega arith))
first_torn revision ps (suc zero) n h s = inl (unbegun _ (take 1 (le4 revision)) n refl (omega arith))
first_torn revision ps (suc (suc zero)) n h s = inl (unbegun _ (take 2 (le4 revision)) n refl (omega arith))
first_torn revision ps (suc (suc (suc zero))) n h s = inl (unbegun _ (take 3 (le4 revision)) n refl (omega arith))
first_torn revision ps (suc (suc (suc (suc m)))) n h s =
    let rev = le4 revision in
    let xs = encode rev first_prior ps in
    let b = rev ++ (take m xs ++ replicate n 0xff) in
    let c = at 4 first_prior (crc_of seed rev) in
    let begins : start b ≡ c = start_at b (omega arith) in
    let blank : m ≡ 0 → Quiet b c = λ z. quiet_erased b 4 n first_prior (crc_of seed rev) (ap (λ q. take q xs ++ replicate n 0xff) z) calm_first in
    ⊎_elim
    (λ q. inl (log_quiet b c begins q))
    (λ q. inr (log_single b c 4 (entries 4 ps) begins q ∙ ap (λ r. record { revision = r; commits = entries 4 ps ∷ [] }) (le32_first revision (take m xs ++ replicate n 0xff) h)))
    (encoded_torn rev b 4 first_prior ps m n s (lit< tt) blank refl)

-- ---- a commit behind others

-- the end of a log with a finished commit, as a path through the block
record Ended (b : List ℕ) : Type 0 where
  front : List Item
  path : Path b (at 4 first_prior (crc_of seed (take 4 b))) front (at (end_of b).offset (end_of b).prior seed)
  nothing : unfinished [] front ≡ []
  same : commits_of [] front ≡ commits_of [] (items_of b)
  begins : 4 ≤ length b
  low : (end_of b).prior < 2 ^ 32

ended : (b : List ℕ) → 0 < length (log_of b).commits → Ended b
ended b h = go (cases_lt (length b) 4) (tail (length b) b (start b))
  where
    some : 0 < length (commits_of [] (items_of b))
    some = subst (λ xs. 0 < length xs) (log_commits (le32 b 0) (commits_of [] (items_of b))) h

    go : (length b < 4) ⊎ (4 ≤ length b) → Unfinished (items_of b) ⊎ Finished b (start b) (items_of b) → Ended b
    go (inl short) t = absurd (omega (arith, some, ap (λ xs. length (commits_of [] xs)) (short_block b short)))
    go (inr long) (inl u) = absurd (omega (arith, some, ap length (u.none [])))
    go (inr long) (inr k) =
        let end : end_of b ≡ k.last = k.end no_end in
        record {
          front = k.front;
          path = subst (λ c. Path b c k.front (at (end_of b).offset (end_of b).prior seed)) (start_at b long) (subst (λ (e : End). Path b (start b) k.front (at e.offset e.prior seed)) (sym end) k.path);
          nothing = k.nothing [];
          same = k.same [];
          begins = long;
          low = subst (λ (e : End). e.prior < 2 ^ 32) (sym end) k.low;
        }

-- a block with the same bytes up to the end of b's log: its log is that of b, and what is read behind it
module _ (b c : List ℕ) (some : 0 < length (log_of b).commits) (same : Same (end_of b).offset b c) where
  behind : (f : ℕ) → length c ≡ length (ended b some).front + f → commits_of [] (items_of c) ≡ commits_of [] (items_of b) ++ commits_of [] (items f c (at (end_of b).offset (end_of b).prior seed))
  behind f long =
      let k = ended b some in
      let e = (end_of b).offset in
      let p = (end_of b).prior in
      let far : 4 + length k.front ≤ e = path_far b k.front 4 first_prior (crc_of seed (take 4 b)) e p seed k.path in
      let fronts : take 4 b ≡ take 4 c = sym (take-take 4 e b (omega arith)) ∙ ap (take 4) same.front ∙ take-take 4 e c (omega arith) in
      let path : Path c (start c) k.front (at e p seed) =
      subst (λ d. Path c d k.front (at e p seed)) (ap (λ xs. at 4 first_prior (crc_of seed xs)) fronts ∙ sym (start_at c (omega (arith, same.long, k.begins))))
      (path_same b c e same k.front (at 4 first_prior (crc_of seed (take 4 b))) p seed k.path) in
      ap (λ n. commits_of [] (items n c (start c))) long
      ∙ ap (commits_of []) (path_items f c (start c) k.front (at e p seed) path)
      ∙ commits_join [] k.front (items f c (at e p seed))
      ∙ ap (λ begun. commits_of [] k.front ++ commits_of begun (items f c (at e p seed))) k.nothing
      ∙ ap (λ xs. xs ++ commits_of [] (items f c (at e p seed))) k.same

  revision_same : le32 c 0 ≡ le32 b 0
  revision_same =
      let k = ended b some in
      let far = path_far b k.front 4 first_prior (crc_of seed (take 4 b)) (end_of b).offset (end_of b).prior seed k.path in
      sym (same_le32 (end_of b).offset b c same 0 (omega (arith, far)))

  inside : length (ended b some).front ≤ length c
  inside =
      let k = ended b some in
      let far = path_far b k.front 4 first_prior (crc_of seed (take 4 b)) (end_of b).offset (end_of b).prior seed k.path in
      let near = path_inside b k.front 4 first_prior (crc_of seed (take 4 b)) (end_of b).offset (end_of b).prior seed k.begins k.path in
      omega (arith, far, near, same.long)

  enough : length c ≤ length c - length (ended b some).front + (end_of b).offset
  enough =
      let k = ended b some in
      let far = path_far b k.front 4 first_prior (crc_of seed (take 4 b)) (end_of b).offset (end_of b).prior seed k.path in
      omega (arith, far, inside)

  commits_some : 0 < length (commits_of [] (items_of b))
  commits_some = subst (λ xs. 0 < length xs) (log_commits (le32 b 0) (commits_of [] (items_of b))) some

  log_same : Quiet c (at (end_of b).offset (end_of b).prior seed) → log_of c ≡ log_of b
  log_same q =
      let f = length c - length (ended b some).front in
      let all = behind f (omega (arith, inside)) ∙ ap (λ xs. commits_of [] (items_of b) ++ xs) (q.none f []) ∙ append-nil (commits_of [] (items_of b)) in
      ap (λ r. log_from r (commits_of [] (items_of c))) revision_same ∙ ap (log_from (le32 b 0)) all

  log_extended : (es : List Entry) → Single c (at (end_of b).offset (end_of b).prior seed) (end_of b).offset es → log_of c ≡ extended (log_of b) es
  log_extended es q =
      let f = length c - length (ended b some).front in
      let cs = commits_of [] (items_of b) in
      let all : commits_of [] (items_of c) ≡ cs ++ es ∷ [] = behind f (omega (arith, inside)) ∙ ap (λ xs. cs ++ xs) (q.one f [] enough) in
      let more : 0 < length (cs ++ es ∷ []) = omega (arith, length-append cs (es ∷ [])) in
      let was = log_some (le32 b 0) cs commits_some in
      ap (λ r. log_from r (commits_of [] (items_of c))) revision_same ∙ ap (log_from (le32 b 0)) all ∙ log_some (le32 b 0) (cs ++ es ∷ []) more
      ∙ ap (λ (l : Log). extended l es) (sym was)

-- the block with bytes put behind its log
module _ (b xs : List ℕ) (some : 0 < length (log_of b).commits) (fits : (end_of b).offset + length xs ≤ length b) where
  front_long : length (take (end_of b).offset b) ≡ (end_of b).offset
  front_long = length-take-le (end_of b).offset b (omega arith)

  appended_same : Same (end_of b).offset b (appended b xs)
  appended_same =
      let e = (end_of b).offset in
      let n = length b - e - length xs in
      let fill : List ℕ = replicate n 0xff in
      let one : length (take e b ++ xs) ≡ e + length xs = length-append (take e b) xs ∙ ap (λ q. q + length xs) front_long in
      let all = length-append (take e b ++ xs) fill in
      record {
        long = omega (arith, one, all, length-replicate {A = ℕ} n 0xff);
        front = sym (ap (take e) (append_assoc (take e b) xs fill) ∙ take_at (take e b) (xs ++ fill) e front_long);
      }

  appended_left : drop (end_of b).offset (appended b xs) ≡ xs ++ replicate (length b - (end_of b).offset - length xs) 0xff
  appended_left =
      let e = (end_of b).offset in
      let fill : List ℕ = replicate (length b - e - length xs) 0xff in
      ap (drop e) (append_assoc (take e b) xs fill) ∙ drop_at (take e b) (xs ++ fill) e front_long

pub append_reads : AppendReads
append_reads b ps a s fits =
    let e = (end_of b).offset in
    let p = (end_of b).prior in
    let xs = next_bytes b ps in
    let c = appended b xs in
    log_extended b c a.some (appended_same b xs a.some fits) (entries e ps)
    (encoded [] c e p ps (length b - e - length xs) tt s (ended b a.some).low (appended_left b xs a.some fits))

-- nothing put behind a log
appended_none : (b : List ℕ) → Appendable b → appended b [] ≡ b
appended_none b a =
    let e = (end_of b).offset in
    let n : length b - e - 0 ≡ length b - e = omega arith in
    ap (λ xs. xs ++ replicate (length b - e - 0) 0xff) (append-nil (take e b)) ∙ ap (λ m. take e b ++ replicate m 0xff) n ∙ ap (λ xs. take e b ++ xs) (sym a.erased) ∙ take-append-drop e b

pub append_torn : AppendTorn
append_torn b ps zero a s fits = inl (ap log_of (appended_none b a))
append_torn b ps (suc m) a s fits =
    let e = (end_of b).offset in
    let p = (end_of b).prior in
    let xs = take (suc m) (next_bytes b ps) in
    let c = appended b xs in
    let room : e + length xs ≤ length b = omega (arith, length-take (suc m) (next_bytes b ps)) in
    let same = appended_same b xs a.some room in
    ⊎_elim
    (λ q. inl (log_same b c a.some same q))
    (λ q. inr (log_extended b c a.some same (entries e ps) q))
    (encoded_torn [] c e p ps (suc m) (length b - e - length xs) s (ended b a.some).low (λ z. absurd (omega (arith, z))) (appended_left b xs a.some room))

-- ---- a block whose front is erased

erased_byte : (b : List ℕ) (n k : ℕ) → take n b ≡ replicate n 0xff → k < n → get_or b k 0 ≡ 0xff
erased_byte b n k e h = sym (get_or-take n b k 0 h) ∙ ap (λ xs. get_or xs k 0) e ∙ get_or-replicate n k 0xff 0 h

erased_at : (b : List ℕ) (n i : ℕ) → take n b ≡ replicate n 0xff → i + 4 ≤ n → be32 b i ≡ 0xffffffff
erased_at b n i e h =
    let h0 : i < n = omega arith in
    let h1 : i + 1 < n = omega arith in
    let h2 : i + 2 < n = omega arith in
    let h3 : i + 3 < n = omega arith in
    rw (erased_byte b n i e h0, erased_byte b n (i + 1) e h1, erased_byte b n (i + 2) e h2, erased_byte b n (i + 3) e h3)

-- behind a tag that decodes to 0, erased bytes are no tag
quiet_second : (b : List ℕ) (n i sum : ℕ) → take n b ≡ replicate n 0xff → i + 4 ≤ n → View b i 0 sum → Quiet b (at i 0 sum)
quiet_second b n i sum e h (stops eq) = quiet_halt b (at i 0 sum) eq
quiet_second b n i sum e h (holds t f plain eq) =
    let is : t ≡ 0xffffffff = sym (found b i 0 t f).is ∙ ap (λ w. bit_xor w 0) (erased_at b n i e h) in
    absurd (omega (arith, is, (found b i 0 t f).valid))
quiet_second b n i sum e h (ends t f last right eq) =
    let is : t ≡ 0xffffffff = sym (found b i 0 t f).is ∙ ap (λ w. bit_xor w 0) (erased_at b n i e h) in
    absurd (omega (arith, is, (found b i 0 t f).valid))

-- the first tag of an erased log decodes to 0, which ends no commit
quiet_first : (b : List ℕ) (n sum : ℕ) → take n b ≡ replicate n 0xff → 12 ≤ n → View b 4 first_prior sum → Quiet b (at 4 first_prior sum)
quiet_first b n sum e h (stops eq) = quiet_halt b (at 4 first_prior sum) eq
quiet_first b n sum e h (holds t f plain eq) =
    let is : t ≡ 0 = sym (found b 4 first_prior t f).is ∙ ap (λ w. bit_xor w first_prior) (erased_at b n 4 e (omega arith)) in
    let next = crc_of sum (part b 4 4) in
    quiet_held b (at 4 first_prior sum) (at 8 0 next) (entry_at b 4 0) (subst (λ x. step b (at 4 first_prior sum) ≡ holding b 4 sum x) is eq) (quiet_second b n 8 next e (omega arith) (view b 8 0 next))
quiet_first b n sum e h (ends t f last right eq) =
    let is : t ≡ 0 = sym (found b 4 first_prior t f).is ∙ ap (λ w. bit_xor w first_prior) (erased_at b n 4 e (omega arith)) in
    absurd (contrary (ends_commit t) last (ap ends_commit is))

pub half_erased : HalfErased
half_erased b h e =
    let sum = crc_of seed (take 4 b) in
    log_quiet b (at 4 first_prior sum) (start_at b (omega arith)) (quiet_first b (length b / 2) sum e (omega arith) (view b 4 first_prior sum))
