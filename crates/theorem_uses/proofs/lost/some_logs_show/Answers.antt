-- Each is a part of what the logs are.
use Rattle.theorem_uses.proofs.Beside.{broken_beside, runs_beside, runs_beside_rise, sound_beside, without_lost}
use Rattle.theorem_uses.proofs.Stale.{stale_beside}
use Rattle.theorem_uses.proofs.lost.some_logs_show.Goals as goal

pub returns-clause-sound : goal.returns-clause-sound
returns-clause-sound g c = sound_beside g.V.PartialEq.eq

pub returns-clause-broken : goal.returns-clause-broken
returns-clause-broken g c = broken_beside g.V.PartialEq.eq

pub returns-clause-runs : goal.returns-clause-runs
returns-clause-runs g c = runs_beside

pub returns-clause-rise : goal.returns-clause-rise
returns-clause-rise g c = runs_beside_rise

pub returns-clause-stale : goal.returns-clause-stale
returns-clause-stale g c = stale_beside

pub returns-clause-rest : goal.returns-clause-rest
returns-clause-rest g c = without_lost
