use Rattle.object_sweep.proofs.laws.opening_is_exact.Goals as goal
use Rattle.object_sweep.proofs.Whole.{opened}

pub returns : goal.returns
returns g c = opened g.O.Object.after
