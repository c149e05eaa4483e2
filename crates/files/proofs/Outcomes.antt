-- What a read of a file comes to, from the answers of its steps.
use Rattle.std.proofs.Common.{◌≡◌, ℕ, zero, suc, ◌+◌, ◌-◌, ◌<◌, ◌≤◌, Bool, true, false, cond, ◌&&◌, leb, List, [], ◌++◌, length, get_or, take, drop, Some, None, Ok, Err, Option, Result, sym, refl, ap, ◌∙◌, arith}
use borrow.Rule.Slice.PartMut.{put_mid}
use Rattle.std.proofs.lemmas.List.{length-take-le, get_or_push, take-take, drop-take}
use Rattle.std.proofs.lemmas.Bool.{cond-true, cond-false, and_parts, leb-true}
use Rattle.std.specs.Option.{ok_or}
use Rattle.flash.specs.Card.{Card, bytes}
use Rattle.flash.specs.Write.{part}
use Rattle.metalog.specs.Tag.{le32}
use Rattle.skiplist.specs.Layout.{start_of}
use Rattle.skiplist.specs.Places.{file_limit}
use Rattle.skiplist.specs.Sizes.{bytes_of}
use Rattle.skiplist.specs.declared.size.BlockSize.{BlockSize}
use Rattle.skiplist.proofs.Sizes.{bytes_least}
use Rattle.skiplist.proofs.Places.{formula_stands}
use Rattle.volume.specs.Thread.{first_of}
use Rattle.volume.specs.Files.{chain, chain_fault, all_right, word_fault, content_from, file_bytes, file_fault}
use Rattle.volume.specs.Check.{is_size}
use Rattle.volume.specs.declared.fault.What.{What}
use Rattle.volume.specs.declared.fault.What.TheVariants.{Dark, Size, Tag}
use Rattle.files.specs.Verdict.{verdict}
use Rattle.files.specs.Bytes.{readable, refused_for, Refused, ReadsFile}
use Rattle.volume.specs.Sizes.{SizeTold}
use Rattle.files.specs.Steps.{LastBlock, FileAt, Copied}
use Rattle.volume.proofs.Retold.{retold}
use Rattle.files.proofs.Rights.{none_right}
use Rattle.files.proofs.Copies.{no_answer}
use Rattle.files.proofs.Verdicts.{chain_length, chain_usable, told_card, verdict_file, fault_parts}

-- ---- a file in which nothing is wrong

-- the last block of a file is its head
chain_ends : (n : ℕ) (c : Card) (h : ℕ) → get_or (chain n c h) n 0 ≡ h
unfolding chain
chain_ends zero c h = refl
chain_ends (suc n) c h = get_or_push (chain n c (le32 (bytes c h) 0)) h 0 (suc n) (chain_length n c (le32 (bytes c h) 0))

none_both : (o p : Option What) → first_of o p ≡ None → (o ≡ None) × (p ≡ None)
none_both None p e = (refl, e)
none_both (Some w) p e = let bad : ◌≡◌ {A = ℕ} 0 1 = cc in absurd (omega arith)

-- a file that may be on the card, and is a sound one
pub sound_file : (c : Card) (seen : List ℕ) (head n : ℕ) (size : BlockSize) (last : ℕ) → SizeTold c (Ok size) → LastBlock (bytes_of size) n (Some last) → verdict c seen head n ≡ None → FileAt c (chain last c head) head last
sound_file c seen head n size last told there none =
    let file = verdict_file c seen head n size last told there in
    let both = none_both (chain_fault last c seen head) (word_fault c (chain last c head)) (sym (fault_parts c seen head n last file.1) ∙ sym file.0 ∙ none) in
    record {
      good = chain_usable last c seen head both.0;
      right = none_right (all_right c (chain last c head) (length (chain last c head))) both.1;
      many = chain_length last c head;
      ends = chain_ends last c head;
    }

-- its bytes end in its last block
pub bytes_end : (n : ℕ) (size : BlockSize) (last : ℕ) → LastBlock (bytes_of size) n (Some last) → (1 ≤ n) × (n ≤ file_limit) × (n ≤ start_of (bytes_of size) (suc last))
bytes_end n size last there =
    let both = and_parts (leb 1 n) (leb n file_limit) there.0 in
    let least = leb-true 1 n both.0 in
    let most = leb-true n file_limit both.1 in
    let stands = formula_stands (bytes_of size) (n - 1) last (bytes_least size) (omega arith) there.1 in
    (least, most, omega (arith, stands.before))

-- ---- what it comes to

-- the answer with what is wrong alone
abbrev pub Outcome : Card → ℕ → ℕ → ℕ → List ℕ → Result ℕ What → List ℕ → Type 0
Outcome c head n place old r out = ReadsFile c head n place (λ w. w) old r out

some_none : (o : Option What) (w : What) → o ≡ Some w → o ≡ None → ⊥
some_none o w p q = let bad : ◌≡◌ {A = ℕ} 0 1 = cc in omega arith

same_reason : (o : Option What) (v w : What) → o ≡ Some v → o ≡ Some w → v ≡ w
same_reason o v w p q = cc

-- refused before a block is read
refused_first : (c : Card) (head n place : ℕ) (old : List ℕ) (w : What) → refused_for c n ≡ Some w → ((seen : List ℕ) → verdict c seen head n ≡ Some w) → Outcome c head n place old (Err w) old
refused_first c head n place old w reason wrong = record {
  sound = λ seen none. absurd (some_none (verdict c seen head n) w (wrong seen) none);
  refused = record { told = λ v e. ap Err (same_reason (refused_for c n) w v reason e); kept = λ v e. refl };
}

-- what refuses a read is what is wrong with the file
pub refused_verdict : (c : Card) (seen : List ℕ) (head n : ℕ) (w : What) → refused_for c n ≡ Some w → verdict c seen head n ≡ Some w
unfolding refused_for verdict
refused_verdict c seen head n w e = by c.dark (is_size c.size (length c.blocks)) (leb 1 n && leb n file_limit) e
  where
    by : (d z l : Bool) → cond d (Some Dark) (cond z (cond l None (Some Tag)) (Some Size)) ≡ Some w → cond d (Some Dark) (cond z (cond l (file_fault c seen head n) (Some Tag)) (Some Size)) ≡ Some w
    by true z l e = e
    by false true true e = let bad : ◌≡◌ {A = ℕ} 0 1 = cc in absurd (omega arith)
    by false true false e = e
    by false false l e = e

pub outcome_refused : (c : Card) (head n place : ℕ) (old : List ℕ) (w : What) → refused_for c n ≡ Some w → Outcome c head n place old (Err w) old
outcome_refused c head n place old w e = refused_first c head n place old w e (λ seen. refused_verdict c seen head n w e)

-- what is wrong with the card refuses a read
pub refused_card : (c : Card) (n : ℕ) (w : What) → SizeTold c (Err w) → refused_for c n ≡ Some w
unfolding refused_for
refused_card c n w told = told_card c.dark (is_size c.size (length c.blocks)) (leb 1 n && leb n file_limit) w None told

-- the card is as it should be
reason_open : (c : Card) (n : ℕ) (size : BlockSize) → SizeTold c (Ok size) → refused_for c n ≡ cond (leb 1 n && leb n file_limit) None (Some Tag)
unfolding refused_for
reason_open c n size told = cond-false c.dark (Some Dark) _ told.0.powered ∙ cond-true (is_size c.size (length c.blocks)) _ (Some Size) told.2

-- and so does a length that no file has
pub refused_long : (c : Card) (n : ℕ) (size : BlockSize) (o : Option ℕ) (w : What) → SizeTold c (Ok size) → LastBlock (bytes_of size) n o → Err w ≡ ok_or o Tag → refused_for c n ≡ Some w
refused_long c n size None w told long e =
    let tag : Tag ≡ w = cc in
    reason_open c n size told ∙ cond-false (leb 1 n && leb n file_limit) None (Some Tag) long ∙ ap Some tag
refused_long c n size (Some last) w told long e = let bad : ◌≡◌ {A = ℕ} 0 1 = cc in absurd (omega arith)

-- a file that may be on the card is not refused
not_refused_lem : (c : Card) (n : ℕ) (size : BlockSize) (last : ℕ) (old : List ℕ) (r : Result ℕ What) (out : List ℕ) → SizeTold c (Ok size) → LastBlock (bytes_of size) n (Some last) → Refused c n (λ w. w) old r out
not_refused_lem c n size last old r out told there =
    let none : refused_for c n ≡ None = reason_open c n size told ∙ cond-true (leb 1 n && leb n file_limit) None (Some Tag) there.0 in
    record { told = λ w e. absurd (some_none (refused_for c n) w e none); kept = λ w e. absurd (some_none (refused_for c n) w e none) }

-- behind the end of the file there is nothing to read
pub outcome_behind : (c : Card) (head n place : ℕ) (old : List ℕ) (size : BlockSize) (last : ℕ) → SizeTold c (Ok size) → LastBlock (bytes_of size) n (Some last) → n ≤ place → Outcome c head n place old (Ok 0) old
outcome_behind c head n place old size last told there behind =
    let none : 0 ≡ readable (length old) n place = omega arith in
    record {
      sound = λ seen _. record {
        count = ap Ok none;
        holds = ap (λ (k : ℕ). part (file_bytes c head n) place k ++ drop k old) none;
      };
      refused = not_refused_lem c n size last old (Ok 0) old told there;
    }

-- as many bytes as can be read fit into the buffer
front_length : (old : List ℕ) (n place k : ℕ) → k ≡ readable (length old) n place → length (take (k - 0) old) ≡ k
front_length old n place k is =
    let all : k - 0 ≡ k = omega arith in
    ap (λ (m : ℕ). length (take m old)) all ∙ length-take-le k old (omega arith)

-- a copy stops only where something is wrong with the file
pub outcome_stops : (c : Card) (head n place : ℕ) (old : List ℕ) (size : BlockSize) (last k : ℕ) (w : What) (new out : List ℕ) → SizeTold c (Ok size) → LastBlock (bytes_of size) n (Some last) → place < n → k ≡ readable (length old) n place
    → ((bs : List ℕ) → FileAt c bs head last → place + length (take (k - 0) old) ≤ start_of (bytes_of size) (suc last) → Copied c bs place (take (k - 0) old) (Err w) new) → Outcome c head n place old (Err w) out
outcome_stops c head n place old size last k w new out told there less is copied =
    let end = bytes_end n size last there in
    let many = front_length old n place k is in
    record {
      sound = λ seen none. absurd (no_answer w tt (copied (chain last c head) (sound_file c seen head n size last told there none) (omega arith)).answer);
      refused = not_refused_lem c n size last old (Err w) out told there;
    }

-- bytes of the file are content of its blocks
bytes_part : (xs : List ℕ) (n place k : ℕ) → place + k ≤ n → part (take n xs) place k ≡ part xs place k
bytes_part xs n place k fits =
    let whole : n ≡ place + (n - place) = omega arith in
    ap (λ (m : ℕ). part (take m xs) place k) whole
    ∙ ap (take k) (drop-take place (n - place) xs)
    ∙ take-take k (n - place) (drop place xs) (omega arith)

-- the bytes were copied into the first part of the buffer
pub outcome_read : (c : Card) (head n place : ℕ) (old : List ℕ) (size : BlockSize) (last k : ℕ) (new : List ℕ) → SizeTold c (Ok size) → LastBlock (bytes_of size) n (Some last) → place < n → k ≡ readable (length old) n place
    → ((bs : List ℕ) → FileAt c bs head last → place + length (take (k - 0) old) ≤ start_of (bytes_of size) (suc last) → Copied c bs place (take (k - 0) old) (Ok tt) new) → Outcome c head n place old (Ok k) (put_mid 0 (k - 0) old new)
outcome_read c head n place old size last k new told there less is copied =
    let end = bytes_end n size last there in
    let all : k - 0 ≡ k = omega arith in
    let many = front_length old n place k is in
    let xs : List ℕ = content_from c 0 (chain last c head) in
    let blocks = (verdict_file c [] head n size last told there).1 in
    record {
      sound = λ seen none.
          let done = (copied (chain last c head) (sound_file c seen head n size last told there none) (omega arith)).holds in
          record {
            count = ap Ok is;
            holds =
                ap (λ (ys : List ℕ). ys ++ drop (k - 0) old) (done ∙ ap (part xs place) many ∙ sym (bytes_part xs n place k (omega arith)))
                ∙ ap (λ (m : ℕ). part (take n xs) place k ++ drop m old) all
                ∙ ap (λ (m : ℕ). part (take n (content_from c 0 (chain m c head))) place k ++ drop k old) (sym blocks)
                ∙ ap (λ (m : ℕ). part (file_bytes c head n) place m ++ drop m old) is;
          };
      refused = not_refused_lem c n size last old (Ok k) (put_mid 0 (k - 0) old new) told there;
    }

-- ---- the same answer, as it is told to a caller

pub reads_retold : {E : Type 0} (tells : What → E) (c : Card) (head n place : ℕ) (old : List ℕ) (r : Result ℕ What) (out : List ℕ) → Outcome c head n place old r out → ReadsFile c head n place tells old (retold tells r) out
reads_retold tells c head n place old r out o = record {
  sound = λ seen none. record { count = ap (retold tells) (o.sound seen none).count; holds = (o.sound seen none).holds };
  refused = record { told = λ w e. ap (retold tells) (o.refused.told w e); kept = o.refused.kept };
}
