-- The spans of the operations met so far.
use Rattle.history_search.specs.inner.Groups.{AreSpans, spans_in}
use Rattle.history_search.proofs.span.join_ops.Given as goal

abbrev pub invariant-loop-place : goal.invariant-loop-place
invariant-loop-place g l = AreSpans l.ops l.groups l.place (spans_in l.ops l.spans)
