-- Looked for at once, so that another value is refused at once.
use Rattle.std.proofs.Common.{rules}
use Rattle.matrix_core.proofs.progress.choose.Goals as goal

pub returns-in-Read : goal.returns-in-Read
returns-in-Read g c = search rules

pub returns-in-Some : goal.returns-in-Some
returns-in-Some g c = search rules

pub returns-in-None : goal.returns-in-None
returns-in-None g c = search rules
