-- A path begins with a slash; behind it stand no names, or those that were split.
use Rattle.std.proofs.Common.{sym, refl, subst, arith}
use Rattle.std.proofs.lemmas.List.{get_or_past}
use Rattle.volume.specs.Parsed.{names_at, NamesOf}
use Rattle.volume.proofs.Splits.{no_path, no_names, some_names}
use Rattle.volume.proofs.paths.parse_path.Goals as goal
use Rattle.volume.proofs.paths.parse_path.Goals.{then-path-eq0-via-then-path-eq0, then-path-eq0-via-else-path-eq0+then-path-ne47}

pub returns-then-path-eq0 : goal.returns-then-path-eq0
returns-then-path-eq0 c =
    let path = c.args.path.now in
    elim c.then-path-eq0.branch [
      | then-path-eq0-via-then-path-eq0 w ↦ no_path path (λ e. omega (arith, e, get_or_past path 0 0 (omega (arith, w.if-path-eq0.true))))
      | then-path-eq0-via-else-path-eq0+then-path-ne47 w ↦ no_path path w.if-path-ne47.true
    ]

pub returns-then-path-eq1 : goal.returns-then-path-eq1
unfolding names_at
returns-then-path-eq1 c = record { few = omega arith; room = refl; are = no_names c.args.path.now c.if-path-eq1.true c.if-path-ne47.false }

pub returns : goal.returns
returns c =
    let path = c.args.path.now in
    subst (λ names. NamesOf path names c.split_names.result) (sym (some_names path (omega arith) c.if-path-ne47.false)) c.split_names.ensures
