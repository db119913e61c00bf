-- Those that are tried or all, and the first so many of them.
use Rattle.std.proofs.Common.{subst, sym}
use Rattle.object_sweep.specs.declared.narrow.Passed.{Passed}
use Rattle.object_sweep.specs.inner.Steps.{IsPassed}
use Rattle.object_sweep.proofs.Reaching.{passed_few}
use Rattle.object_sweep.proofs.narrow.pass_narrowly.Goals as goal
use Rattle.object_sweep.proofs.narrow.pass_narrowly.Goals.{else-width-le-NARROW+in_ok-passed}
use Rattle.object_sweep.proofs.narrow.pass_narrowly.Goals.{then-width-le-NARROW+then-not-is_empty+in_ok-kept}

pub returns : goal.returns
returns g c =
    passed_few g.O.Object.after c.args.log.now c.args.under_way.now c.args.ending c.args.width c.args.configurations.now
    c.if-width-le-NARROW.passed.kept.items c.narrowed.result.kept.items c.if-width-le-NARROW.passed.whole c.narrowed.result.whole passed
    c.narrowed.ensures
  where
    P : Passed g.row.O.Denot → Type 0
    P z = IsPassed z.whole g.O.Object.after c.args.log.now c.args.under_way.now c.args.ending c.args.configurations.now z.kept.items

    passed : P c.if-width-le-NARROW.passed
    passed = elim c.if-width-le-NARROW.branch [
      | then-width-le-NARROW+then-not-is_empty+in_ok-kept w ↦ subst P (sym w.passed-is) w.in_ok-kept.ensures
      | else-width-le-NARROW+in_ok-passed w ↦ subst P (sym w.passed-is) w.in_ok-passed.ensures
    ]
