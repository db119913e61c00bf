-- One turn more.
use Rattle.std.proofs.Common.{[], refl}
use Rattle.example_control.specs.Turns.{Publishes, no_turn}
use Rattle.example_control.proofs.Runs.{has_run}
use Rattle.example_control.proofs.tasks.keep_readings.Goals as goal

pub loop-init : goal.loop-init
loop-init g c = record { of = c.requires; calls = []; turns = no_turn }

pub loop-preserved : goal.loop-preserved
loop-preserved g c =
    let run = has_run g.F.Family c.args.shared.now.board Publishes c.args.pass.now c.loop.invariant.calls _ c.loop.pass
    c.publish-published.new.pass
    c.publish-published.result c.loop.invariant.turns (_, refl) c.publish-published.ensures.turn in
    record { of = c.publish-published.ensures.pass; calls = run.calls; turns = run.turns }

pub returns-then-is_err : goal.returns-then-is_err
returns-then-is_err g c =
    has_run g.F.Family c.args.shared.now.board Publishes c.args.pass.now c.loop.invariant.calls _ c.loop.pass c.publish-published.new.pass
    c.publish-published.result c.loop.invariant.turns (_, refl) c.publish-published.ensures.turn
