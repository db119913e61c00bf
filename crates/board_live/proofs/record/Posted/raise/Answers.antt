-- Looked for at once, so that another value is refused at once.
use Rattle.std.proofs.Common.{rules}
use Rattle.board_live.proofs.record.Posted.raise.Goals as goal

pub returns-then-lt : goal.returns-then-lt
returns-then-lt g c = search rules

pub returns-else-lt : goal.returns-else-lt
returns-else-lt g c = search rules
