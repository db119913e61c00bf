-- No group met so far ends before its write begins.
use Rattle.history_search.specs.inner.Found.{NoneEarlyIn}
use Rattle.history_search.specs.inner.Groups.{spans_in}
use Rattle.history_search.proofs.span.first_early.Given as goal

abbrev pub invariant-loop-write : goal.invariant-loop-write
invariant-loop-write g l = NoneEarlyIn l.ops (spans_in l.ops l.spans) l.write
