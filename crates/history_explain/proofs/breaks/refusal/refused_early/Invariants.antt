-- The terms from k on are searched.
use Rattle.history_explain.proofs.Early.{HasSearched}
use Rattle.history_explain.proofs.breaks.refusal.refused_early.Given as goal

abbrev pub invariant-loop-k : goal.invariant-loop-k
invariant-loop-k g l = HasSearched l.terms l.ops l.order l.k l.next l.found
