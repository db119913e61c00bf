-- Each line was asked for that.
use Rattle.exchanges_log.proofs.ForwardLemmas.{forwards}
use Rattle.exchanges_log.proofs.laws.read_log_runs_forwards.Goals as goal

pub returns : goal.returns
returns c = forwards c.said_operation_runs_forwards.ensures
