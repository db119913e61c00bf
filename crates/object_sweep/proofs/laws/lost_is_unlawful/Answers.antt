use Rattle.object_sweep.proofs.laws.lost_is_unlawful.Goals as goal
use Rattle.object_sweep.proofs.Lost.{lost}

pub returns : goal.returns
returns g c = lost g.O.Object.after
