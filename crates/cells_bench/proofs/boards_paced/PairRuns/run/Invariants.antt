-- Each call leaves the passes those of this board.
use Rattle.board_live.specs.Passes.{IsPass}
use Rattle.cells_bench.specs.Items.{no_law}
use Rattle.cells_bench.proofs.boards_paced.PairRuns.run.Given as goal

abbrev pub invariant-loop-number : goal.invariant-loop-number
invariant-loop-number g l = IsPass g.F.Family no_law l.self.board.now l.self.first
    × IsPass g.F.Family no_law l.self.board.now l.self.second
