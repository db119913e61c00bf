-- The passes that are left are of this board, and so are those of the tasks.
use Rattle.std.proofs.Common.{All}
use Rattle.board_live.specs.Passes.{IsPass}
use Rattle.cells_bench.specs.Items.{no_law}
use Rattle.cells_bench.proofs.boards_at_once.make_tasks.Given as goal

abbrev pub invariant-loop : goal.invariant-loop
invariant-loop g l = All (IsPass g.F.Family no_law l.board) l.passes.items
    × All (λ t. IsPass g.F.Family no_law t.value.board.now t.value.pass) l.tasks.items
