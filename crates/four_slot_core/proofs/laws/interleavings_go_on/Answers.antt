-- A trace is a fold over its steps, and an item is taken at W1 alone.
use Rattle.four_slot_core.proofs.traces.Items.{trace_of_items}
use Rattle.four_slot_core.proofs.traces.Laws.{trace_more}
use Rattle.four_slot_core.proofs.laws.interleavings_go_on.Goals as goal

pub returns : goal.returns
returns g c = record { step = trace_more; items = trace_of_items }
