-- Looked for at once, so that another value is refused at once.
use Rattle.std.proofs.Common.{rules}
use Rattle.read_log.specs.Log.{log_in}
use Rattle.read_log.proofs.log.log_in.Goals as goal

pub returns-clause-log : goal.returns-clause-log
unfolding log_in
returns-clause-log c = search rules
