-- An entry that fits no tag, one for which there is no room, and one that is written.
use Rattle.std.proofs.Common.{◌≡◌, ◌+◌, ◌∙◌, length, sym, refl, ap, arith}
use Rattle.std.proofs.lemmas.Result.{err_from_is_err_and}
use lib.Bits.{bit_xor}
use Rattle.metalog.specs.Tag.{be4}
use Rattle.metalog.proofs.Puts.{then, moved}
use Rattle.metalog.proofs.Writes.{made, not_made, bad_tag, good_tag, no_room, accepted, sound}
use Rattle.metalog.proofs.writer.CommitWriter.put.Goals as goal

pub returns-in_err-tag-clause-writes : goal.returns-in_err-tag-clause-writes
returns-in_err-tag-clause-writes c =
    let no = not_made _ _ _ c.in_err-tag.ensures in
    let p = err_from_is_err_and c.from_residual.result c.from_residual.ensures.1 in
    rw (p.1, p.2, no.1) (bad_tag _ _ c.args.part.kind c.args.part.id _ no.0, refl, refl, refl)

pub returns-then-not-has_room-clause-writes : goal.returns-then-not-has_room-clause-writes
returns-then-not-has_room-clause-writes c =
    (no_room _ _ c.args.part.kind c.args.part.id _ c.in_ok-tag.tag (made _ _ _ c.in_ok-tag.ensures) (sym c.if-not-has_room.ensures), refl, refl, refl)

pub returns : goal.returns
returns c =
    let part = c.args.part in
    let tag = made _ _ _ c.in_ok-tag.ensures in
    let good = good_tag 0 0 part.kind part.id (length part.bytes.now) c.in_ok-tag.tag tag in
    let place : c.append.new.self.used ≡ c.args.self.now.used + 4 = c.append.ensures.state.0 ∙ ap (λ l. c.args.self.now.used + length l) c.to_be_bytes.ensures in
    record {
      lender = c.append-2.ensures.lender ∙ c.append.ensures.lender;
      writes = (
        accepted _ _ part.kind part.id _ c.in_ok-tag.tag tag (sym c.if-not-has_room.ensures),
        sound part.kind part.id part.bytes.now good.0 c.append-2.ensures.small,
        then (moved refl (c.to_be_bytes.ensures ∙ ap (λ t. be4 (bit_xor t c.args.self.now.prior)) good.1) c.append.ensures.buffer) (moved place refl c.append-2.ensures.buffer),
        omega (arith, place, c.append-2.ensures.state.0),
        good.1,
      );
    }
