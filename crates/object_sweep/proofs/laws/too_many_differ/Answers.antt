use Rattle.object_sweep.proofs.laws.too_many_differ.Goals as goal
use Rattle.object_sweep.proofs.TooMany.{two_differ}

pub returns : goal.returns
returns g c = two_differ g.O.Object.after
