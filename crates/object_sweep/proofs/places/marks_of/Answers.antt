-- One mark more; at the end no place is left.
use Rattle.object_sweep.specs.Marks.{mark_of}
use Rattle.object_sweep.proofs.Marks.{none_left, one_more}
use Rattle.object_sweep.proofs.places.marks_of.Goals as goal

pub loop-place-preserved : goal.loop-place-preserved
loop-place-preserved c = one_more mark_of c.args.places.now c.loop-place.marks c.loop-place.place-index c.mark_of-marks.result
    c.loop-place-test.true c.mark_of-marks.ensures c.loop-place.invariant

pub returns : goal.returns
returns c = none_left mark_of c.args.places.now c.loop-place.marks c.loop-place.place-index c.loop-place-test.false c.loop-place.invariant
