-- The same orders are lawful.
use Rattle.watch_lines.proofs.LinedLemmas.{same_orders}
use Rattle.watch_lines.proofs.laws.lines_change_nothing.Goals as goal

pub returns : goal.returns
returns c = same_orders
