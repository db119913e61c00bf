-- One more that doesn't.
use Rattle.std.proofs.Common.{◌≡◌, ◌≤◌, length, get_or, slice_get, Some, arith}
use Rattle.std.proofs.lemmas.Bool.{iff_false}
use Rattle.std.proofs.lemmas.Option.{slice_get-get_or, slice_get_within}
use Rattle.object_core.specs.declared.operation.Operation.{Operation}
use Rattle.object_registers.specs.declared.exchanging.Exchange.{Exchange}
use Rattle.object_window.specs.Windows.{LooksAt}
use Rattle.object_window.proofs.Found.{and_there, no_op}
use Rattle.object_window.proofs.window.is_seen.Goals as goal

pub loop-i-preserved : goal.loop-i-preserved
loop-i-preserved c =
    let here : slice_get c.args.log.now c.loop-i.i ≡ Some (get_or c.args.log.now c.loop-i.i no_op) =
    slice_get-get_or c.args.log.now c.loop-i.i no_op c.loop-i-test.true in
    and_there (λ (z : Operation Exchange). ¬ LooksAt c.args.value z.what) c.args.log.now c.loop-i.i
    (get_or c.args.log.now c.loop-i.i no_op) here (iff_false c.looks_at.ensures c.if-looks_at.false) c.loop-i.invariant

pub returns : goal.returns
returns c h i o at =
    let l = slice_get_within c.args.log.now i o at in
    let done : length c.args.log.now ≤ c.loop-i.i = c.loop-i-test.false in
    c.loop-i.invariant i o (omega (arith, l, done)) at
