-- Looked for at once, so that another value is refused at once.
use Rattle.std.proofs.Common.{rules}
use Rattle.read_history.specs.Check.{check_of}
use Rattle.read_history.proofs.check.read_check.Goals as goal

pub returns-in_err-value : goal.returns-in_err-value
unfolding check_of
returns-in_err-value c = search rules

pub returns : goal.returns
unfolding check_of
returns c = search rules
