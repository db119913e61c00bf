-- With those of the places that are left they are the marks of all.
use Rattle.std.proofs.Common.{◌≡◌, drop}
use Rattle.std.specs.Prelude.{bit_or}
use Rattle.object_sweep.specs.Marks.{marks_of}
use Rattle.object_sweep.proofs.places.marks_of.Given as goal

abbrev pub invariant-loop-place : goal.invariant-loop-place
invariant-loop-place l = bit_or l.marks (marks_of (drop l.place-index l.places)) ≡ marks_of l.places
