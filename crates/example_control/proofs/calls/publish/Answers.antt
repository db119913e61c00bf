-- A read, and a write of what was made of it.
use Rattle.std.proofs.Common.{rules}
use Rattle.example_control.specs.Turns.{with_reading}
use Rattle.example_control.proofs.Runs.{turn}
use Rattle.example_control.proofs.calls.publish.Goals as goal

pub returns-clause-turn : goal.returns-clause-turn
returns-clause-turn g c =
    turn g.F.Family c.args.board.now (with_reading c.args.reading) c.args.pass.now c.read-low.new.pass c.write.new.pass
    c.read-low.result c.write.result c.read-low.ensures.pass c.read-low.ensures.call c.read-low.ensures.chosen
    c.write.ensures.pass c.write.ensures.call

pub read-low-requires : goal.read-low-requires
read-low-requires g c = search rules

pub write-requires-clause-pass : goal.write-requires-clause-pass
write-requires-clause-pass g c = search rules

pub write-requires-clause-item : goal.write-requires-clause-item
write-requires-clause-item g c = search rules

pub returns-clause-pass : goal.returns-clause-pass
returns-clause-pass g c = search rules

pub returns-clause-process : goal.returns-clause-process
returns-clause-process g c = search rules
