-- Of the entries from i on the least end is known, and none of them precedes an earlier one of them.
use Rattle.history_core.proofs.Listed.{NoneBackFrom}
use Rattle.history_check.proofs.Backwards.{IsLeastEnd}
use Rattle.history_check.proofs.check.precedence.keeps_precedence.Given as goal

abbrev pub invariant-loop-i : goal.invariant-loop-i
invariant-loop-i g l = record { least : IsLeastEnd l.ops l.order l.i l.least; none : NoneBackFrom l.ops l.order l.i }
