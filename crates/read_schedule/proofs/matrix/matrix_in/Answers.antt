-- Looked for at once, so that another value is refused at once.
use Rattle.std.proofs.Common.{rules}
use Rattle.read_schedule.specs.Matrix.{matrix_in}
use Rattle.read_schedule.proofs.matrix.matrix_in.Goals as goal

pub returns-clause-document : goal.returns-clause-document
unfolding matrix_in
returns-clause-document c = search rules

pub returns-in_err-must-2-clause-document : goal.returns-in_err-must-2-clause-document
unfolding matrix_in
returns-in_err-must-2-clause-document c = search rules
