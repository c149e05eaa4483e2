-- One block more is counted, or not, by whether the set holds it.
use Rattle.std.proofs.Common.{◌≡◌, ℕ, ◌+◌, Bool, true, false, cond, sym, refl, ap, ◌∙◌, add-one, arith}
use Rattle.blockset.specs.Holds.{capacity, holds, counted}
use Rattle.blockset.proofs.BlockSet.count.Goals as goal
use Rattle.blockset.proofs.BlockSet.count.Goals.{then-contains, else-contains}

-- nothing is counted below 0
none : (f : ℕ → Bool) → 0 ≡ counted 0 f
unfolding counted
none f = refl

-- one number more, by its test
more : (f : ℕ → Bool) (i : ℕ) (t : Bool) → t ≡ f i → counted (i + 1) f ≡ counted i f + cond t 1 0
unfolding counted
more f i t e = ap (λ (n : ℕ). counted n f) (add-one i) ∙ ap (λ u. counted i f + cond u 1 0) (sym e)

pub loop-block-init : goal.loop-block-init
loop-block-init c = (none (holds c.args.self.now), omega arith)

pub loop-block-preserved : goal.loop-block-preserved
loop-block-preserved c =
    let f : ℕ → Bool = holds c.args.self.now in
    let i = c.loop-block.block in
    elim c.if-contains.branch [
      | then-contains w ↦ let e = more f i true (sym w.if-contains.true ∙ c.contains.ensures) in (omega (arith, e, w.held-is, c.loop-block.invariant.0), omega (arith, w.held-is))
      | else-contains w ↦ let e = more f i false (sym w.if-contains.false ∙ c.contains.ensures) in (omega (arith, e, w.held-is, c.loop-block.invariant.0), omega (arith, w.held-is))
    ]

pub returns : goal.returns
returns c =
    let all : c.loop-block.block ≡ capacity = omega arith in
    c.loop-block.invariant.0 ∙ ap (λ (n : ℕ). counted n (holds c.args.self.now)) all
