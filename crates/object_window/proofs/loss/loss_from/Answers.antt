-- One more record; and from none at all.
use Rattle.std.proofs.Common.{◌≡◌, ℕ, ◌≤◌, length, get_or, slice_get, Option, Some, subst, arith}
use Rattle.std.proofs.lemmas.Option.{slice_get-get_or, slice_get_within}
use Rattle.object_core.specs.Logs.{IsLinearizable}
use Rattle.object_registers.specs.Registers.{exchanging_after}
use Rattle.object_window.specs.Losses.{holding}
use Rattle.object_window.specs.declared.loss.Loss.{Loss}
use Rattle.object_window.specs.inner.Openings.{IsLossFrom}
use Rattle.object_window.proofs.Found.{and_there}
use Rattle.object_window.proofs.Openings.{lost_from_all}
use Rattle.object_window.proofs.loss.loss_from.Goals as goal

pub returns-in-Some : goal.returns-in-Some
returns-in-Some c =
    let P : Option Loss → Type 0 = λ z. IsLossFrom c.args.log.now c.args.budget (get_or c.args.openings.now c.loop-i.i 0) z in
    subst P c.in-Some.is c.in_ok-loss.ensures

pub loop-i-preserved : goal.loop-i-preserved
loop-i-preserved c =
    let here : slice_get c.args.openings.now c.loop-i.i ≡ Some (get_or c.args.openings.now c.loop-i.i 0) =
    slice_get-get_or c.args.openings.now c.loop-i.i 0 c.loop-i-test.true in
    let P : Option Loss → Type 0 = λ z. IsLossFrom c.args.log.now c.args.budget (get_or c.args.openings.now c.loop-i.i 0) z in
    and_there (λ (z : ℕ). ¬ IsLinearizable exchanging_after (holding z) c.args.log.now) c.args.openings.now c.loop-i.i
    (get_or c.args.openings.now c.loop-i.i 0) here (subst P c.in_default.is c.in_ok-loss.ensures) c.loop-i.invariant

pub returns : goal.returns
returns c =
    lost_from_all c.args.log.now c.args.openings.now c.requires (λ j value at.
    let l = slice_get_within c.args.openings.now j value at in
    let done : length c.args.openings.now ≤ c.loop-i.i = c.loop-i-test.false in
    c.loop-i.invariant j value (omega (arith, l, done)) at)
