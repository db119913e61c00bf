-- The instances are computed place by place.
use Rattle.history_coherence.proofs.Worked.{again_circle, ahead_ahead, crossed_circle}
use Rattle.history_coherence.proofs.laws.instances_are_incoherent.Goals as goal

pub returns-clause-crossed : goal.returns-clause-crossed
returns-clause-crossed c = crossed_circle

pub returns-clause-again : goal.returns-clause-again
returns-clause-again c = again_circle

pub returns-clause-ahead : goal.returns-clause-ahead
returns-clause-ahead c = ahead_ahead
