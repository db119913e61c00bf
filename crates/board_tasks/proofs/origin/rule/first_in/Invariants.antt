-- The entries so far keep the rule, and the stamp of the last of them is kept.
use Rattle.board_tasks.proofs.SoundLogs.{IsKeptSoFar}
use Rattle.board_tasks.proofs.origin.rule.first_in.Given as goal

abbrev pub invariant-loop-place : goal.invariant-loop-place
invariant-loop-place g l = IsKeptSoFar (g.U.Rule.rule l.rule) l.task l.log l.place l.before
