-- By induction over the interleaving: a new last event is made after all others, and each event keeps the invariant.
use Rattle.four_slot_core.proofs.events.Interleaved.{leads_sound, then_writes, then_reads}
use Rattle.four_slot_core.proofs.laws.interleavings_grow.Goals as goal

pub returns : goal.returns
returns g c = record { write = then_writes; read = then_reads; sound = leads_sound }
