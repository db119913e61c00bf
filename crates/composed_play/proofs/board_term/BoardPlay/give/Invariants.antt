-- The rows that were taken stand behind those of the terms before.
use Rattle.std.proofs.Common.{◌≡◌, ◌++◌}
use Rattle.composed_play.proofs.board_term.BoardPlay.give.Given as goal

abbrev pub invariant-loop-row : goal.invariant-loop-row
invariant-loop-row g l = l.slots.items ≡ l.fn.slots.items ++ l.yielded
