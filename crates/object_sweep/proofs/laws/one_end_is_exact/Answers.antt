use Rattle.object_sweep.proofs.laws.one_end_is_exact.Goals as goal
use Rattle.object_sweep.proofs.Whole.{one_end}

pub returns : goal.returns
returns g c = one_end g.O.Object.after
