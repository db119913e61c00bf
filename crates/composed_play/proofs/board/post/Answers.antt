-- Looked for at once, so that another value is refused at once.
use Rattle.std.proofs.Common.{rules}
use Rattle.composed_play.proofs.board.post.Goals as goal

pub returns-in-W1 : goal.returns-in-W1
returns-in-W1 g c = search rules

pub returns-in-W5 : goal.returns-in-W5
returns-in-W5 g c = search rules
