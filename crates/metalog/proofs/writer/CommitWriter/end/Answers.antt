-- The ending tag, the checksum and the padding, one write after another.
use Rattle.std.proofs.Common.{◌≡◌, ℕ, ◌+◌, ◌-◌, ◌%◌, ◌≤◌, length, take, replicate, sym, refl, ap, ◌∙◌, arith}
use lib.Bits.{bit_xor}
use Rattle.std.proofs.lemmas.List.{length-take-le, length-replicate, take-replicate}
use Rattle.std.proofs.lemmas.Bool.{leb-true}
use Rattle.metalog.specs.Crc.{crc_of}
use Rattle.metalog.specs.Tag.{be4, le4}
use Rattle.metalog.specs.Log.{seed}
use Rattle.metalog.specs.Commit.{ending, pad_of}
use Rattle.metalog.proofs.Puts.{moved}
use Rattle.metalog.proofs.Writes.{pad_is, end_refused, end_accepted, end_put}
use Rattle.metalog.proofs.writer.CommitWriter.end.Goals as goal

pub returns-then-not-has_room : goal.returns-then-not-has_room
returns-then-not-has_room c = record { lender = refl; ends = (end_refused c.args.self.now.used _ _ (pad_is c.args.self.now.used) (sym c.if-not-has_room.ensures), refl) }

pub returns : goal.returns
returns c =
    let b = c.args.self.now.buffer.now in
    let i = c.args.self.now.used in
    let b1 = c.append.new.self.buffer.now in
    let pad = (16 - (i % 16 + 8) % 16) % 16 in
    let same : pad ≡ pad_of i = pad_is i in
    let room : i + (8 + pad) ≤ length b = leb-true (i + (8 + pad)) (length b) (sym c.if-not-has_room.ensures) in
    let tag : 0x500ffc04 + pad ≡ ending (pad_of i) = omega (arith, same) in
    let behind_tag : c.append.new.self.used ≡ i + 4 = c.append.ensures.state.0 ∙ ap (λ l. i + length l) c.to_be_bytes.ensures in
    let behind_sum : c.append-2.new.self.used ≡ i + 8 = omega (arith, behind_tag, c.append-2.ensures.state.0, ap length c.to_le_bytes.ensures) in
    let padding : take pad (replicate {A = ℕ} 16 0xff) ≡ replicate (pad_of i) 0xff = ap (λ n. take n (replicate 16 0xff)) same ∙ take-replicate (pad_of i) 16 0xff (omega arith) in
    record {
      lender = c.append-3.ensures.lender ∙ c.append-2.ensures.lender ∙ c.append.ensures.lender;
      ends = (
        end_accepted i (length b) pad same (sym c.if-not-has_room.ensures),
        end_put b b1 c.append-2.new.self.buffer.now c.append-3.new.self.buffer.now i c.args.self.now.prior (length-take-le i b (omega (arith, room)))
            (moved refl (c.to_be_bytes.ensures ∙ ap (λ t. be4 (bit_xor t c.args.self.now.prior)) tag) c.append.ensures.buffer)
            (moved behind_tag (c.to_le_bytes.ensures ∙ ap le4 (c.sum.ensures ∙ ap (λ n. crc_of seed (take n b1)) behind_tag)) c.append-2.ensures.buffer)
            (moved behind_sum padding c.append-3.ensures.buffer),
        omega (arith, behind_sum, c.append-3.ensures.state.0, ap length padding, length-replicate {A = ℕ} (pad_of i) 0xff),
      );
    }
