-- Looked for at once, so that another value is refused at once.
use Rattle.std.proofs.Common.{rules}
use Rattle.read_history.proofs.operation.actor_of.Goals as goal

pub returns-in_err-get : goal.returns-in_err-get
returns-in_err-get c = search rules

pub returns : goal.returns
returns c = search rules
