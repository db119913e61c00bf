-- Of two operations of one task the first precedes the other.
use Rattle.history_coherence.proofs.laws.atomic_is_coherent.Goals as goal

pub returns : goal.returns
returns g c = λ opening log order turns atomic. record {
  listing = atomic.listing;
  tasks = c.tasks_in_order.ensures log order turns atomic.precedence;
  reading = atomic.reading;
}
