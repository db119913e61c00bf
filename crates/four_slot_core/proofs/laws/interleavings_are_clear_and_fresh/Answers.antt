-- By induction over the trace: a new position is above all before it, so what was clear and fresh stays, and an event keeps it.
use Rattle.four_slot_core.proofs.traces.Laws.{moments_rise, rises_first, rises_from_first, traces_answered, traces_clear, traces_fresh}
use Rattle.four_slot_core.proofs.laws.interleavings_are_clear_and_fresh.Goals as goal

pub returns : goal.returns
returns g c = record {
  clear = λ opening noise items next moments rises. traces_clear opening noise items moments (rises_from_first next moments rises);
  fresh = λ opening noise items next moments rises. traces_fresh opening noise items moments (rises_from_first next moments rises);
  answered = λ opening noise items next moments rises. traces_answered opening noise items moments (rises_from_first next moments rises);
  first = rises_first;
  played = moments_rise;
}
