-- The times leave one number to each read.
use Rattle.theorem_uses.proofs.Answered.{counted, in_history, in_turn, reads_no_older, reads_the_opening, reads_the_write}
use Rattle.theorem_uses.proofs.cells.atomic_calls_show.Goals as goal

pub returns-clause-later : goal.returns-clause-later
returns-clause-later g c = reads_the_write

pub returns-clause-earlier : goal.returns-clause-earlier
returns-clause-earlier g c = reads_the_opening

pub returns-clause-rising : goal.returns-clause-rising
returns-clause-rising g c = reads_no_older

pub returns-clause-turns : goal.returns-clause-turns
returns-clause-turns g c = in_turn

pub returns-clause-counted : goal.returns-clause-counted
returns-clause-counted g c = counted

pub returns-clause-history : goal.returns-clause-history
returns-clause-history g c = in_history
