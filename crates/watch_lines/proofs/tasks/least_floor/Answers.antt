-- Folded from the first on it is the same.
use Rattle.std.proofs.Common.{◌∙◌}
use Rattle.watch_lines.proofs.TaskLemmas.{least_is}
use Rattle.watch_lines.proofs.tasks.least_floor.Goals as goal

pub returns : goal.returns
returns c = c.least_in_turn.ensures ∙ least_is c.args.tasks.now
