-- Each call leaves the passes those of this board.
use Rattle.std.proofs.Common.{◌<◌, length}
use Rattle.board_live.specs.Ends.{AllPasses}
use Rattle.cells_bench.specs.Items.{no_law}
use Rattle.cells_bench.proofs.boards.Team.round.Given as goal

abbrev pub invariant-loop-number : goal.invariant-loop-number
invariant-loop-number g l = AllPasses g.F.Family no_law l.self.board l.self.passes.items × (0 < length l.self.passes.items)
