-- Looked for at once, so that another value is refused at once.
use Rattle.std.proofs.Common.{rules}
use Rattle.composed_play.proofs.board.chosen_by_write.Goals as goal

pub returns-in-W1 : goal.returns-in-W1
returns-in-W1 g c = search rules

pub returns-in-W2 : goal.returns-in-W2
returns-in-W2 g c = search rules
