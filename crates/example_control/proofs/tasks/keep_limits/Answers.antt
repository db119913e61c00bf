-- One turn more.
use Rattle.std.proofs.Common.{[], refl, rules}
use Rattle.example_control.specs.Turns.{SetsLimits, no_turn}
use Rattle.example_control.proofs.Runs.{has_run}
use Rattle.example_control.proofs.tasks.keep_limits.Goals as goal

pub loop-init : goal.loop-init
loop-init g c = record { of = c.requires; calls = []; turns = no_turn }

pub loop-preserved : goal.loop-preserved
loop-preserved g c =
    let run = has_run g.F.Family c.args.shared.now.board SetsLimits c.args.pass.now c.loop.invariant.calls _ c.loop.pass
    c.set_limits-set.new.pass
    c.set_limits-set.result c.loop.invariant.turns (_, _, refl) c.set_limits-set.ensures.turn in
    record { of = c.set_limits-set.ensures.pass; calls = run.calls; turns = run.turns }

pub returns-then-is_err : goal.returns-then-is_err
returns-then-is_err g c =
    has_run g.F.Family c.args.shared.now.board SetsLimits c.args.pass.now c.loop.invariant.calls _ c.loop.pass c.set_limits-set.new.pass
    c.set_limits-set.result c.loop.invariant.turns (_, _, refl) c.set_limits-set.ensures.turn

pub set_limits-set-requires-clause-pass : goal.set_limits-set-requires-clause-pass
set_limits-set-requires-clause-pass g c = search rules

pub set_limits-set-requires-clause-limits : goal.set_limits-set-requires-clause-limits
set_limits-set-requires-clause-limits g c = search rules
