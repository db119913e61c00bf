-- The passes are those of a new board.
use Rattle.board_live.proofs.Passing.{all_new}
use Rattle.cells_bench.specs.Items.{no_law}
use Rattle.cells_bench.proofs.boards.Team.new.Goals as goal

pub returns : goal.returns
returns g c = all_new g.F.Family no_law c.in-Ok.board _ _ _ c.in-Ok.passes.items c.in-Ok.ensures
