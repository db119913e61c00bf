-- Looked for at once, so that another value is refused at once.
use Rattle.std.proofs.Common.{rules}
use Rattle.composed_play.proofs.board.hear.Goals as goal

pub returns-then-line-eq0 : goal.returns-then-line-eq0
returns-then-line-eq0 g c = search rules

pub returns-else-line-eq0 : goal.returns-else-line-eq0
returns-else-line-eq0 g c = search rules

pub returns-in-R2 : goal.returns-in-R2
returns-in-R2 g c = search rules

pub returns-then-line-n : goal.returns-then-line-n
returns-then-line-n g c = search rules

pub returns-else-line-n : goal.returns-else-line-n
returns-else-line-n g c = search rules
