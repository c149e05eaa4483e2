-- Equal bytes are passed over; the first that differ decide, and behind them the lengths.
use Rattle.std.proofs.Common.{◌≡◌, ltb, length, get_or, drop, sym, ◌∙◌, inl, inr, arith}
use Rattle.std.proofs.lemmas.Bool.{cases_lt, lt-ltb, le-ltb}
use Rattle.volume.specs.Tree.{before}
use Rattle.volume.proofs.Tails.{before_same, before_less, before_more, before_end, before_first}
use Rattle.volume.proofs.names.precedes.Goals as goal

pub returns-then-a-i : goal.returns-then-a-i
returns-then-a-i c =
    let a = c.args.a.now in
    let b = c.args.b.now in
    let i = c.loop-i.i in
    let x = get_or a i 0 in
    let y = get_or b i 0 in
    let differ = c.if-a-i.true in
    let decided : before (drop i a) (drop i b) ≡ ltb x y =
    elim (cases_lt x y) [
      | inl h ↦ before_less a b i (omega arith) (omega arith) h ∙ sym (lt-ltb x y h)
      | inr h ↦ before_more a b i (omega arith) (omega arith) (omega arith) ∙ sym (le-ltb x y h)
    ] in
    sym decided ∙ c.loop-i.invariant

pub loop-i-preserved : goal.loop-i-preserved
loop-i-preserved c =
    let a = c.args.a.now in
    let b = c.args.b.now in
    let i = c.loop-i.i in
    before_same a b i (omega arith) (omega arith) c.if-a-i.false ∙ c.loop-i.invariant

pub returns : goal.returns
returns c =
    let a = c.args.a.now in
    let b = c.args.b.now in
    let i = c.loop-i.i in
    let decided : before (drop i a) (drop i b) ≡ ltb (length a) (length b) =
    elim (cases_lt i (length a)) [
      | inl h ↦ before_end a b i (omega arith) (omega arith) (omega arith) (omega arith)
      | inr h ↦ before_first a b i h (omega arith) (omega arith)
    ] in
    sym decided ∙ c.loop-i.invariant
