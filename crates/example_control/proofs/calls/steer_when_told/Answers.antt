-- What a pass was told isn't above what its next call chooses.
use Rattle.std.proofs.Common.{rules}
use Rattle.example_control.proofs.Runs.{heeds}
use Rattle.example_control.proofs.calls.steer_when_told.Goals as goal

pub returns-clause-heeds : goal.returns-clause-heeds
returns-clause-heeds g c =
    heeds g.F.Family c.args.board.now c.args.pass.now c.learn.new.pass c.steer.new.pass c.args.receipt c.requires.receipt.inside
    c.requires.other c.learn.ensures.same.process c.learn.ensures.learnt c.steer.ensures.call

pub learn-requires-clause-pass : goal.learn-requires-clause-pass
learn-requires-clause-pass g c = search rules

pub learn-requires-clause-receipt : goal.learn-requires-clause-receipt
learn-requires-clause-receipt g c = search rules

pub steer-requires : goal.steer-requires
steer-requires g c = search rules

pub returns-clause-pass : goal.returns-clause-pass
returns-clause-pass g c = search rules

pub returns-clause-process : goal.returns-clause-process
returns-clause-process g c = search rules
