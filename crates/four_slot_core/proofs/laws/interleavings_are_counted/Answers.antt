-- By cases on the stage, at each step of the trace.
use Rattle.four_slot_core.proofs.traces.Laws.{rises_from_first, traces_counted}
use Rattle.four_slot_core.proofs.laws.interleavings_are_counted.Goals as goal

pub returns : goal.returns
returns g c = λ opening noise items next moments rises. traces_counted opening noise items moments (rises_from_first next moments rises)
