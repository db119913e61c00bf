-- The walk goes on, and less is left.
use Rattle.history_coherence.specs.inner.Walks.{AreFurther, IsWalking, left_of}
use Rattle.history_coherence.proofs.walk.place_path.Given as goal

abbrev pub invariant-records : goal.invariant-records
invariant-records l = record {
  walking : IsWalking l.tables l.walk;
  further : AreFurther l.fn.walk.marks.items l.walk.marks.items;
}

abbrev pub decreases-records : goal.decreases-records
decreases-records l = left_of l.walk
