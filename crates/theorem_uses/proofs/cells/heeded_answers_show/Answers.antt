-- A receipt's writes are the first of those known, and the number is no less than that of the last of them.
use Rattle.theorem_uses.proofs.Heeded.{answers_nothing_stale, answers_the_writer}
use Rattle.theorem_uses.proofs.cells.heeded_answers_show.Goals as goal

pub returns-clause-written : goal.returns-clause-written
returns-clause-written g c = answers_the_writer

pub returns-clause-fresh : goal.returns-clause-fresh
returns-clause-fresh g c = answers_nothing_stale
