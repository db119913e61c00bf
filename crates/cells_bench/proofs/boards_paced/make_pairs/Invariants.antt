-- The passes that are left are of this board, and so are those of the threads.
use Rattle.std.proofs.Common.{All}
use Rattle.board_live.specs.Passes.{IsPass}
use Rattle.cells_bench.specs.Items.{no_law}
use Rattle.cells_bench.proofs.boards_paced.make_pairs.Given as goal

abbrev pub invariant-loop-number : goal.invariant-loop-number
invariant-loop-number g l = All (IsPass g.F.Family no_law l.board) l.passes.items
    × All (λ p. IsPass g.F.Family no_law p.value.board.now p.value.first
    × IsPass g.F.Family no_law p.value.board.now p.value.second) l.pairs.items
