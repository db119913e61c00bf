-- The least is at most the floor of each.
use Rattle.watch_lines.proofs.TaskLemmas.{least_refuses}
use Rattle.watch_lines.proofs.laws.least_floor_refuses_no_more.Goals as goal

pub returns : goal.returns
returns c = least_refuses
