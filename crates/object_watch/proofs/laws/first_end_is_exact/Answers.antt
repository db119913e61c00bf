-- One end is exact, and what is placed is removed.
use Rattle.object_watch.proofs.FirstEnds.{first_end}
use Rattle.object_watch.proofs.laws.first_end_is_exact.Goals as goal

pub returns : goal.returns
returns g c = first_end g.O.Object.after
