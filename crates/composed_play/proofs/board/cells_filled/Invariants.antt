-- Each turn pushes one more new cell.
use Rattle.std.proofs.Common.{◌≡◌, replicate}
use Rattle.four_slot_core.specs.Events.{opening_state}
use Rattle.composed_play.proofs.board.cells_filled.Given as goal

abbrev pub invariant-loop-i : goal.invariant-loop-i
invariant-loop-i g l = l.cells.items ≡ replicate l._i (opening_state l.fn.opening l.fn.noise)
