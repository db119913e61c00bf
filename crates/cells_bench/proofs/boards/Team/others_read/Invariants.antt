-- Each call leaves as many passes of this board.
use Rattle.std.proofs.Common.{◌≡◌, length}
use Rattle.board_live.specs.Ends.{AllPasses}
use Rattle.cells_bench.specs.Items.{no_law}
use Rattle.cells_bench.proofs.boards.Team.others_read.Given as goal

abbrev pub invariant-loop-who : goal.invariant-loop-who
invariant-loop-who g l = AllPasses g.F.Family no_law l.self.board l.self.passes.items × (l.n ≡ length l.self.passes.items)
