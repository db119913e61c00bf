-- The lanes that are left have passes of the board.
use Rattle.std.proofs.Common.{All}
use Rattle.history_core.specs.Band.{fits}
use Rattle.board_live.specs.Passes.{IsPass}
use Rattle.test_growths.proofs.lanes.usable_passes.Given as goal

abbrev pub invariant-loop : goal.invariant-loop
invariant-loop g l = All (λ x. IsPass g.F.Family fits l.board x.pass) l.lanes.items
