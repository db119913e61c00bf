-- Looked for at once, so that another value is refused at once.
use Rattle.std.proofs.Common.{rules}
use Rattle.board_live.proofs.board.Board.new.Goals as goal

pub returns-then-not-contains : goal.returns-then-not-contains
returns-then-not-contains g c = search rules

pub returns-then-not-fits : goal.returns-then-not-fits
returns-then-not-fits g c = search rules

pub deal-requires-clause-lawful : goal.deal-requires-clause-lawful
deal-requires-clause-lawful g c = search rules

pub deal-requires-clause-opens : goal.deal-requires-clause-opens
deal-requires-clause-opens g c = search rules

pub deal-requires-clause-processes : goal.deal-requires-clause-processes
deal-requires-clause-processes g c = search rules

pub deal-requires-clause-within : goal.deal-requires-clause-within
deal-requires-clause-within g c = search rules

pub returns-in-Ok : goal.returns-in-Ok
returns-in-Ok g c = search rules

pub returns-in-Err : goal.returns-in-Err
returns-in-Err g c = search rules
