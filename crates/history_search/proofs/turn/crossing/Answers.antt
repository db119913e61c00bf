-- Looked for at once, so that another value is refused at once.
use Rattle.std.proofs.Common.{rules}
use Rattle.history_search.proofs.turn.crossing.Goals as goal

pub returns : goal.returns
returns c = search rules
