-- Each call leaves as many passes of this board.
use Rattle.std.proofs.Common.{◌≡◌, length}
use Rattle.board_live.specs.Ends.{AllPasses}
use Rattle.cells_bench.specs.Items.{no_law}
use Rattle.cells_bench.proofs.boards.Team.read.Given as goal

abbrev pub invariant-loop-number : goal.invariant-loop-number
invariant-loop-number g l = AllPasses g.F.Family no_law l.self.board l.self.passes.items × (l.n ≡ length l.self.passes.items)
