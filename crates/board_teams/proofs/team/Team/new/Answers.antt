-- The passes are those of a new board.
use Rattle.history_core.specs.Band.{fits}
use Rattle.board_live.proofs.Passing.{all_new}
use Rattle.board_teams.proofs.team.Team.new.Goals as goal

pub returns : goal.returns
returns g c = all_new g.F.Family fits c.in_ok-board.board _ _ _ c.in_ok-board.passes.items c.in_ok-board.ensures
