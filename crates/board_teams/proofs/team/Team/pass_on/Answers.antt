-- The sender's pass is of the board, before it tells and after it, and so is the receiver's, before it learns and after it.
use Rattle.std.proofs.Common.{arith, ◌≡◌, length, set}
use Rattle.std.specs.Prelude.{vec_len}
use Rattle.history_core.specs.Band.{fits}
use Rattle.board_live.specs.Ends.{AllPasses}
use Rattle.board_live.proofs.Passing.{stood, used}
use Rattle.board_teams.proofs.team.Team.pass_on.Goals as goal

pub tell-receipt-requires : goal.tell-receipt-requires
tell-receipt-requires g c =
    (stood g.F.Family fits c.args.self.now.board c.args.self.now.passes.items _ c.args.from c.index_mut.result.now
    c.args.self.now.passes.ok.0 (omega (arith, c.if-from-len.false, c.len.ensures)) c.index_mut.ensures.value c.requires).0

pub learn-requires-clause-pass : goal.learn-requires-clause-pass
learn-requires-clause-pass g c =
    let ys = set c.args.self.now.passes.items c.args.from c.tell-receipt.new.pass in
    let told : AllPasses g.F.Family fits c.args.self.now.board ys × (vec_len c.args.self.now.passes ≡ length ys) =
    used g.F.Family fits c.args.self.now.board c.args.self.now.passes.items _ c.args.from c.index_mut.result.now c.tell-receipt.new.pass
    c.args.self.now.passes.ok.0 (omega (arith, c.if-from-len.false, c.len.ensures)) c.index_mut.ensures.value c.requires
    c.tell-receipt.ensures.pass c.tell-receipt.ensures.process in
    (stood g.F.Family fits c.args.self.now.board ys _ c.args.to c.index_mut-2.result.now told.1
    (omega (arith, c.if-to-len.false, c.len-2.ensures)) c.index_mut-2.ensures.value told.0).0

pub returns : goal.returns
returns g c =
    let ys = set c.args.self.now.passes.items c.args.from c.tell-receipt.new.pass in
    let told : AllPasses g.F.Family fits c.args.self.now.board ys × (vec_len c.args.self.now.passes ≡ length ys) =
    used g.F.Family fits c.args.self.now.board c.args.self.now.passes.items _ c.args.from c.index_mut.result.now c.tell-receipt.new.pass
    c.args.self.now.passes.ok.0 (omega (arith, c.if-from-len.false, c.len.ensures)) c.index_mut.ensures.value c.requires
    c.tell-receipt.ensures.pass c.tell-receipt.ensures.process in
    (used g.F.Family fits c.args.self.now.board ys _ c.args.to c.index_mut-2.result.now c.learn.new.pass told.1
    (omega (arith, c.if-to-len.false, c.len-2.ensures)) c.index_mut-2.ensures.value told.0 c.learn.ensures.pass
    c.learn.ensures.same.process).0
