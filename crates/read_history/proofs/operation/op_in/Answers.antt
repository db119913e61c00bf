-- Looked for at once, so that another value is refused at once.
use Rattle.std.proofs.Common.{rules}
use Rattle.read_history.proofs.operation.op_in.Goals as goal

pub returns-in_err-actor_of : goal.returns-in_err-actor_of
returns-in_err-actor_of c = search rules

pub returns-in_err-kind_of : goal.returns-in_err-kind_of
returns-in_err-kind_of c = search rules

pub returns-in_err-beginning_of : goal.returns-in_err-beginning_of
returns-in_err-beginning_of c = search rules

pub returns-in_err-optional_number : goal.returns-in_err-optional_number
returns-in_err-optional_number c = search rules

pub returns-in_err-optional_band : goal.returns-in_err-optional_band
returns-in_err-optional_band c = search rules

pub returns : goal.returns
returns c = search rules
