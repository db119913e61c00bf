-- It is asked of each line.
use Rattle.read_exchange.proofs.ForwardLemmas.{forwards}
use Rattle.read_exchange.proofs.laws.said_operation_runs_forwards.Goals as goal

pub returns : goal.returns
returns c = forwards
