use Rattle.object_sweep.proofs.laws.last_end_is_exact.Goals as goal
use Rattle.object_sweep.proofs.Whole.{last_end}

pub returns : goal.returns
returns g c = last_end g.O.Object.after
