-- The sender's pass is of the board, before it tells and after it.
use Rattle.std.proofs.Common.{arith}
use Rattle.history_core.specs.Band.{fits}
use Rattle.board_live.proofs.Passing.{stood, used}
use Rattle.board_teams.proofs.team.Team.drop_receipt.Goals as goal

pub tell-receipt-requires : goal.tell-receipt-requires
tell-receipt-requires g c =
    (stood g.F.Family fits c.args.self.now.board c.args.self.now.passes.items _ c.args.from c.index_mut.result.now
    c.args.self.now.passes.ok.0 (omega (arith, c.if-from-len.false, c.len.ensures)) c.index_mut.ensures.value c.requires).0

pub returns : goal.returns
returns g c =
    (used g.F.Family fits c.args.self.now.board c.args.self.now.passes.items _ c.args.from c.index_mut.result.now c.tell-receipt.new.pass
    c.args.self.now.passes.ok.0
    (omega (arith, c.if-from-len.false, c.len.ensures)) c.index_mut.ensures.value c.requires c.tell-receipt.ensures.pass
    c.tell-receipt.ensures.process).0
