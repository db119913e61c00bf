use Rattle.object_sweep.proofs.laws.reached_is_sound.Goals as goal
use Rattle.object_sweep.proofs.Exact.{back}
use Rattle.object_sweep.proofs.Whole.{opened}

pub returns : goal.returns
returns g c opening log ended placed s reached finish =
    let after = g.O.Object.after in (opened after opening log).0 (back after log opening reached finish)
