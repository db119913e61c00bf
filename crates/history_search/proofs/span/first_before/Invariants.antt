-- No group met so far ends before the moment.
use Rattle.std.proofs.Common.{◌≡◌, ◌<◌, ℕ, suc, Some, None, slice_get}
use Rattle.history_search.specs.declared.span.Span.{Span}
use Rattle.history_search.specs.inner.Groups.{ends_before, spans_in}
use Rattle.history_search.proofs.span.first_before.Given as goal

abbrev pub invariant-loop-group : goal.invariant-loop-group
invariant-loop-group g l = (w : ℕ) (span : Span) → suc w < l.group → slice_get (spans_in l.ops l.spans) (suc w) ≡ Some span →
    ends_before span.ends l.moment ≡ None
