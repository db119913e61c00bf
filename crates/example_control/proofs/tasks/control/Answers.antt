-- One read more, and its command.
use Rattle.std.proofs.Common.{[], refl, subst, rules}
use Rattle.example_control.specs.Turns.{no_read}
use Rattle.example_control.proofs.Runs.{one_command}
use Rattle.example_control.proofs.tasks.control.Goals as goal

pub loop-init : goal.loop-init
loop-init g c = record { of = c.requires; calls = []; reads = no_read; drives = refl }

pub loop-preserved : goal.loop-preserved
loop-preserved g c =
    let steered = one_command g.F.Family c.args.shared.now.board g.M.Motor.was_sent c.args.pass.now c.loop.pass c.steer-command.new.pass
    c.args.motor.now c.loop.motor c.send.new.self c.loop.invariant.calls c.loop.invariant.reads c.loop.invariant.drives
    c.steer-command.ensures.call
    (subst (λ z. g.M.Motor.was_sent c.loop.motor z c.send.new.self) c.steer-command.ensures.command c.send.ensures) in
    record { of = c.steer-command.ensures.pass; calls = steered.calls; reads = steered.reads; drives = steered.drives }

pub returns-then-is_told : goal.returns-then-is_told
returns-then-is_told g c =
    one_command g.F.Family c.args.shared.now.board g.M.Motor.was_sent c.args.pass.now c.loop.pass c.steer-command.new.pass
    c.args.motor.now c.loop.motor c.send.new.self c.loop.invariant.calls c.loop.invariant.reads c.loop.invariant.drives
    c.steer-command.ensures.call
    (subst (λ z. g.M.Motor.was_sent c.loop.motor z c.send.new.self) c.steer-command.ensures.command c.send.ensures)

pub steer-command-requires : goal.steer-command-requires
steer-command-requires g c = search rules
