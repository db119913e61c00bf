-- One more is there, or need not be.
use Rattle.std.proofs.Common.{◌≡◌, ◌≤◌, length, get_or, slice_get, Some, arith}
use Rattle.std.proofs.lemmas.Option.{slice_get-get_or, slice_get_within}
use Rattle.object_window.proofs.Found.{and_excused, no_op}
use Rattle.object_window.proofs.window.are_others_free.Goals as goal

pub loop-q-preserved : goal.loop-q-preserved
loop-q-preserved c =
    let here : slice_get c.args.log.now c.loop-q.q ≡ Some (get_or c.args.log.now c.loop-q.q no_op) =
    slice_get-get_or c.args.log.now c.loop-q.q no_op c.loop-q-test.true in
    and_excused c.args.places.now c.args.first c.args.last c.args.little.now c.args.log.now c.loop-q.q
    (get_or c.args.log.now c.loop-q.q no_op) here (c.is_excused.ensures c.if-not-is_excused.false) c.loop-q.invariant

pub returns : goal.returns
returns c h q o at none =
    let l = slice_get_within c.args.log.now q o at in
    let done : length c.args.log.now ≤ c.loop-q.q = c.loop-q-test.false in
    c.loop-q.invariant q o (omega (arith, l, done)) at none
