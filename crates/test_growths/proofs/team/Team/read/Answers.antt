-- The pass of the process is of the board, before the call and after it.
use Rattle.std.proofs.Common.{arith}
use Rattle.history_core.specs.Band.{fits}
use Rattle.board_live.proofs.Passing.{stood, used}
use Rattle.test_growths.proofs.team.Team.read.Goals as goal

pub read-requires : goal.read-requires
read-requires g c =
    (stood g.F.Family fits c.args.self.now.board c.args.self.now.passes.items _ c.args.who c.index_mut.result.now
    c.args.self.now.passes.ok.0 (omega (arith, c.if-who-len.false, c.len.ensures)) c.index_mut.ensures.value c.requires).0

pub returns : goal.returns
returns g c =
    (used g.F.Family fits c.args.self.now.board c.args.self.now.passes.items _ c.args.who c.index_mut.result.now c.read.new.pass
    c.args.self.now.passes.ok.0 (omega (arith, c.if-who-len.false, c.len.ensures)) c.index_mut.ensures.value c.requires c.read.ensures.pass
    c.read.ensures.call.process).0
