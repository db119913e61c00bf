-- By the accesses of each call.
use Rattle.board_history.proofs.Growing.{call_made, nothing_made}
use Rattle.board_history.proofs.laws.calls_add_up.Goals as goal

pub returns-clause-none : goal.returns-clause-none
returns-clause-none g c width n limit i first did h = nothing_made width n limit first i did h

pub returns-clause-more : goal.returns-clause-more
returns-clause-more g c width n limit i first old new call two some h m = call_made width n limit first i old new call two some h m
