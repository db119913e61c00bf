-- The log has the operation with its line.
use Rattle.watch_lines.specs.Steps.{opened}
use Rattle.watch_lines.proofs.watcher.take_lined.Goals as goal

pub returns-in-Ok-clause-taken : goal.returns-in-Ok-clause-taken
returns-in-Ok-clause-taken c = λ log is. c.in-Ok.ensures.taken opened log is
