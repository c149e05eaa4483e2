-- The bytes of an empty card's root block, as the commit writer leaves them in a buffer of just their length.
use Rattle.std.proofs.Common.{◌≡◌, ℕ, ◌+◌, ◌-◌, List, [], length, replicate, Some, None, Ok, Err, Option, Result, sym, refl, ap, ◌∙◌, arith}
use Rattle.std.proofs.lemmas.List.{take_all}
use Rattle.metalog.specs.Commit.{body, end_bytes, encode}
use Rattle.metalog.specs.Laws.{first_bytes}
use Rattle.metalog.specs.Writer.{put_refusal, end_refusal, write_refusal, WritesFirst}
use Rattle.metalog.specs.declared.writer.Unwritable.{Unwritable}
use Rattle.flash.specs.Card.{Card, put}
use Rattle.flash.specs.Contents.{WroteBlock}
use Rattle.flash.specs.History.{Histories}
use Rattle.flash.specs.Runs.{filled}
use Rattle.flash.specs.declared.Refusal.{Refusal}
use Rattle.cardtool.specs.Empty.{superblock_entry, Emptied}

-- four units
root_long : (size count : ℕ) → length (first_bytes 1 (superblock_entry size count)) ≡ 64
unfolding body end_bytes encode
root_long size count = refl

accepted : (size count : ℕ) → write_refusal 4 64 (superblock_entry size count) ≡ None
unfolding put_refusal end_refusal
accepted size count = refl

pub root_written : (size count : ℕ) (r : Result ℕ Unwritable) (c : List ℕ) → WritesFirst (replicate 64 0xff) 1 (superblock_entry size count) r c → c ≡ first_bytes 1 (superblock_entry size count)
root_written size count (Ok end) c w =
    let long = root_long size count in
    sym (take_all (0 + length (first_bytes 1 (superblock_entry size count))) c (omega (arith, w.2.long, long))) ∙ w.2.front
root_written size count (Err e) c w =
    let both : ◌≡◌ {A = Option Unwritable} None (Some e) = sym (accepted size count) ∙ w.0 in
    let bad : ◌≡◌ {A = ℕ} 0 1 = cc in
    absurd (omega arith)

-- one block written after the other was erased
pub root_put : (c d1 d : Card) (content : List ℕ) (r : Result (Unit {0}) Refusal) (old new : Histories) → d1 ≡ put c 1 (filled c []) → WroteBlock d1 0 content r d old new → content ≡ first_bytes 1 (superblock_entry c.size (length c.blocks)) → Emptied c r d
root_put c d1 d content (Ok x) old new first w e =
    let size : c.size - 0 ≡ c.size = omega arith in
    let first1 : d1 ≡ put c 1 (replicate c.size 0xff) = first ∙ ap (λ n. put c 1 (replicate n 0xff)) size in
    w.1 ∙ ap (λ v. put v 0 (filled v content)) first1 ∙ ap (λ xs. put (put c 1 (replicate c.size 0xff)) 0 (filled c xs)) e
root_put c d1 d content (Err x) old new first w e = tt
