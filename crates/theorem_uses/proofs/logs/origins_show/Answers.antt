-- Each is a part of it.
use Rattle.theorem_uses.proofs.Logged.{sound, broken}
use Rattle.theorem_uses.proofs.logs.origins_show.Goals as goal

pub returns-clause-sound : goal.returns-clause-sound
returns-clause-sound g c = sound g.V.PartialEq.eq

pub returns-clause-broken : goal.returns-clause-broken
returns-clause-broken g c = broken g.V.PartialEq.eq
