-- Each step leaves the passes those of the board.
use Rattle.history_core.specs.Band.{fits}
use Rattle.board_live.specs.Ends.{AllPasses}
use Rattle.test_families.proofs.teams.rows.steps_hold.Given as goal

abbrev pub invariant-loop-line : goal.invariant-loop-line
invariant-loop-line g l = AllPasses g.F.Family fits l.team.board l.team.passes.items
