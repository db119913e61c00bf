-- The writes among the entries met so far are counted, and its refused writes are lawful.
use Rattle.history_check.proofs.Limits.{CountsTo}
use Rattle.history_explain.proofs.breaks.refusal.early_before.Given as goal

abbrev pub invariant-loop-entry : goal.invariant-loop-entry
invariant-loop-entry g l = CountsTo l.first l.next l.limit l.ops l.order l.entry l.writes
