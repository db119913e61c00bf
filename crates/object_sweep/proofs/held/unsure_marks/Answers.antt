-- One mark more; at the end no place is left.
use Rattle.object_sweep.specs.Marks.{unsure_mark}
use Rattle.object_sweep.specs.inner.Steps.{sure_at}
use Rattle.object_sweep.proofs.Marks.{none_left, one_more}
use Rattle.object_sweep.proofs.held.unsure_marks.Goals as goal

pub loop-place-preserved : goal.loop-place-preserved
loop-place-preserved g c = one_more (unsure_mark (sure_at c.args.log.now)) c.args.places.now c.loop-place.marks c.loop-place.place-index
    c.unsure_mark-marks.result c.loop-place-test.true c.unsure_mark-marks.ensures c.loop-place.invariant

pub returns : goal.returns
returns g c = none_left (unsure_mark (sure_at c.args.log.now)) c.args.places.now c.loop-place.marks c.loop-place.place-index
    c.loop-place-test.false c.loop-place.invariant
