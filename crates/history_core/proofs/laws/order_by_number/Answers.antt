-- Where the listed numbers never fall, and rise along precedence, an operation stands before all that it precedes.
use Rattle.history_core.proofs.Numbered.{keeps_by_number}
use Rattle.history_core.proofs.laws.order_by_number.Goals as goal

pub returns : goal.returns
returns g c number ops order h = keeps_by_number number ops order h
