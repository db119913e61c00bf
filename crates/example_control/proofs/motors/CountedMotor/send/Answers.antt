-- Looked for at once, so that another value is refused at once.
use Rattle.std.proofs.Common.{rules}
use Rattle.example_control.proofs.motors.CountedMotor.send.Goals as goal

pub returns-then-not-contains-2 : goal.returns-then-not-contains-2
returns-then-not-contains-2 c = search rules

pub returns-else-not-contains : goal.returns-else-not-contains
returns-else-not-contains c = search rules
