-- No entry met so far precedes one before it, and the latest beginning is known.
use Rattle.history_explain.proofs.Overtaken.{IsLast, NoneUpTo}
use Rattle.history_explain.proofs.breaks.precedence.overtaken.Given as goal

abbrev pub invariant-loop-entry : goal.invariant-loop-entry
invariant-loop-entry g l = record { none : NoneUpTo l.ops l.order l.entry; last : IsLast l.ops l.order l.entry l.last }
