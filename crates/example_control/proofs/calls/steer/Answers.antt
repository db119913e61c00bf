-- Looked for at once, so that another value is refused at once.
use Rattle.std.proofs.Common.{rules}
use Rattle.example_control.proofs.calls.steer.Goals as goal

pub read-seen-requires : goal.read-seen-requires
read-seen-requires g c = search rules

pub command-requires : goal.command-requires
command-requires g c = search rules

pub returns-clause-pass : goal.returns-clause-pass
returns-clause-pass g c = search rules

pub returns-clause-call : goal.returns-clause-call
returns-clause-call g c = search rules

pub returns-clause-command : goal.returns-clause-command
returns-clause-command g c = search rules

pub returns-clause-within : goal.returns-clause-within
returns-clause-within g c = search rules
