-- The pass of the first process is of the board, before its call and after it.
use Rattle.std.proofs.Common.{refl}
use Rattle.board_live.proofs.Passing.{stood, used}
use Rattle.cells_bench.specs.Items.{no_law}
use Rattle.cells_bench.proofs.boards.Team.round.Goals as goal

pub write-requires-clause-pass : goal.write-requires-clause-pass
write-requires-clause-pass g c =
    (stood g.F.Family no_law c.loop-number.self.board c.loop-number.self.passes.items _ 0 c.index_mut.result.now refl
    c.loop-number.invariant.1 c.index_mut.ensures.value c.loop-number.invariant.0).0

pub others_read-sum-requires : goal.others_read-sum-requires
others_read-sum-requires g c =
    (used g.F.Family no_law c.loop-number.self.board c.loop-number.self.passes.items _ 0 c.index_mut.result.now c.write.new.pass refl
    c.loop-number.invariant.1 c.index_mut.ensures.value c.loop-number.invariant.0 c.write.ensures.pass
    c.write.ensures.call.1.process).0

pub loop-number-preserved : goal.loop-number-preserved
loop-number-preserved g c = (c.others_read-sum.ensures, c.others_read-sum.ensures.some)

pub loop-number-init : goal.loop-number-init
loop-number-init g c = (c.requires, c.requires.some)
