-- By the numbers of its records an operation is the same.
use Rattle.watch_lines.proofs.NumberLemmas.{of_what}
use Rattle.watch_lines.proofs.number.number_op.Goals as goal

pub returns-clause-named : goal.returns-clause-named
returns-clause-named c = λ all naming kept. of_what all naming _ _ c.args.op c.in_ok-what.what (c.in_ok-what.ensures all naming kept)
