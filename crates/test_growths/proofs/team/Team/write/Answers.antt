-- The pass of the process is of the board, before the call and after it.
use Rattle.std.proofs.Common.{arith}
use Rattle.history_core.specs.Band.{fits}
use Rattle.board_live.proofs.Passing.{stood, used}
use Rattle.test_growths.proofs.team.Team.write.Goals as goal

pub write-requires-clause-pass : goal.write-requires-clause-pass
write-requires-clause-pass g c =
    (stood g.F.Family fits c.args.self.now.board c.args.self.now.passes.items _ c.args.who c.index_mut.result.now
    c.args.self.now.passes.ok.0 (omega (arith, c.if-who-len.false, c.len.ensures)) c.index_mut.ensures.value c.requires).0

pub returns-in-Ok : goal.returns-in-Ok
returns-in-Ok g c =
    (used g.F.Family fits c.args.self.now.board c.args.self.now.passes.items _ c.args.who c.index_mut.result.now c.write.new.pass
    c.args.self.now.passes.ok.0 (omega (arith, c.if-who-len.false, c.len.ensures)) c.index_mut.ensures.value c.requires c.write.ensures.pass
    c.write.ensures.call.1.process).0

pub returns-in-Err : goal.returns-in-Err
returns-in-Err g c =
    (used g.F.Family fits c.args.self.now.board c.args.self.now.passes.items _ c.args.who c.index_mut.result.now c.write.new.pass
    c.args.self.now.passes.ok.0 (omega (arith, c.if-who-len.false, c.len.ensures)) c.index_mut.ensures.value c.requires c.write.ensures.pass
    c.write.ensures.call.1.process).0
