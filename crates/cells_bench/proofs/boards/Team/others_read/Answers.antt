-- The pass of a process is of the board, before its call and after it.
use Rattle.std.proofs.Common.{arith}
use Rattle.board_live.proofs.Passing.{stood, used}
use Rattle.cells_bench.specs.Items.{no_law}
use Rattle.cells_bench.proofs.boards.Team.others_read.Goals as goal

pub read-requires : goal.read-requires
read-requires g c =
    (stood g.F.Family no_law c.loop-who.self.board c.loop-who.self.passes.items _ c.loop-who.who c.index_mut.result.now
    c.loop-who.invariant.1 (omega arith) c.index_mut.ensures.value c.loop-who.invariant.0).0

pub loop-who-preserved : goal.loop-who-preserved
loop-who-preserved g c =
    used g.F.Family no_law c.loop-who.self.board c.loop-who.self.passes.items _ c.loop-who.who c.index_mut.result.now c.read.new.pass
    c.loop-who.invariant.1 (omega arith) c.index_mut.ensures.value c.loop-who.invariant.0 c.read.ensures.pass
    c.read.ensures.call.process
