-- Of the ranks met so far the last begun is known, and none stands against precedence.
use Rattle.std.proofs.Common.{None}
use Rattle.history_search.specs.inner.Groups.{spans_in}
use Rattle.history_search.specs.inner.Ranks.{ranks_in}
use Rattle.history_search.proofs.Loops.{IsLast}
use Rattle.history_search.proofs.turn.first_turn.Given as goal

abbrev pub invariant-loop-i : goal.invariant-loop-i
invariant-loop-i g l = IsLast l.ops (ranks_in l.ops l.groups (spans_in l.ops l.spans) None l.places) l.i l.last
