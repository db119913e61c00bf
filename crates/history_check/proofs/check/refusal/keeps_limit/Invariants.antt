-- The writes among the entries met so far are counted, and their refused writes are lawful.
use Rattle.history_check.proofs.Limits.{CountsTo}
use Rattle.history_check.proofs.check.refusal.keeps_limit.Given as goal

abbrev pub invariant-loop-place : goal.invariant-loop-place
invariant-loop-place g l = CountsTo l.first l.next l.limit l.ops l.order l.place-index l.writes
