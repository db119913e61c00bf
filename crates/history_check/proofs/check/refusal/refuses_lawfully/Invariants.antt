-- The refused writes of the terms from k on are lawful, and the least first of these terms is known.
use Rattle.history_check.proofs.Limits.{TermsFrom}
use Rattle.history_check.proofs.check.refusal.refuses_lawfully.Given as goal

abbrev pub invariant-loop-k : goal.invariant-loop-k
invariant-loop-k g l = TermsFrom l.terms l.ops l.order l.k l.next
