-- Each reason excludes every coherent order.
use Rattle.history_coherence.proofs.Sound.{no_ahead, no_circle, no_unwritten}
use Rattle.history_coherence.proofs.laws.reasons_exclude.Goals as goal

pub returns-clause-unwritten : goal.returns-clause-unwritten
returns-clause-unwritten c = λ log read written h k. no_unwritten log written k.0 k.1 read h

pub returns-clause-ahead : goal.returns-clause-ahead
returns-clause-ahead c = λ log read write written h k. no_ahead log written k.0 k.1 read write h

pub returns-clause-circle : goal.returns-clause-circle
returns-clause-circle c = λ log links written h k. no_circle log written k.0 k.1 links h
