-- With those of the places that are left they are the marks of all.
use Rattle.std.proofs.Common.{◌≡◌, drop}
use Rattle.std.specs.Prelude.{bit_or}
use Rattle.object_sweep.specs.Marks.{joined, unsure_mark}
use Rattle.object_sweep.specs.inner.Steps.{sure_at}
use Rattle.object_sweep.proofs.held.unsure_marks.Given as goal

abbrev pub invariant-loop-place : goal.invariant-loop-place
invariant-loop-place g l = bit_or l.marks (joined (unsure_mark (sure_at l.log)) (drop l.place-index l.places))
    ≡ joined (unsure_mark (sure_at l.log)) l.places
