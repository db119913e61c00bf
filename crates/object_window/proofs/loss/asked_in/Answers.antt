-- What one more asks for.
use Rattle.std.proofs.Common.{◌≡◌, ◌≤◌, length, get_or, slice_get, Some, arith}
use Rattle.std.proofs.lemmas.Option.{slice_get-get_or, slice_get_within}
use Rattle.object_window.proofs.Found.{no_op}
use Rattle.object_window.proofs.Openings.{one_more}
use Rattle.object_window.proofs.loss.asked_in.Goals as goal

pub loop-place-preserved : goal.loop-place-preserved
loop-place-preserved c =
    let here : slice_get c.args.log.now c.loop-place.place ≡ Some (get_or c.args.log.now c.loop-place.place no_op) =
    slice_get-get_or c.args.log.now c.loop-place.place no_op c.loop-place-test.true in
    one_more c.args.log.now c.loop-place.place c.loop-place.records.items c.push_asked.new.records.items c.loop-place.invariant
    (get_or c.args.log.now c.loop-place.place no_op) here c.in_ok-push_asked.ensures

pub returns : goal.returns
returns c i value o at asks =
    let l = slice_get_within c.args.log.now i o at in
    let done : length c.args.log.now ≤ c.loop-place.place = c.loop-place-test.false in
    c.loop-place.invariant i value o (omega (arith, l, done)) at asks
