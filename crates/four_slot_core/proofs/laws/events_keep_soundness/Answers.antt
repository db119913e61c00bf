-- By cases on the event: W1 takes the pair that `reading` isn't and R3 an index that no writer has, so their slots stay two.
use Rattle.four_slot_core.proofs.events.Keeping.{opening_is_sound, write_is_sound, read_is_sound}
use Rattle.four_slot_core.proofs.laws.events_keep_soundness.Goals as goal

pub returns : goal.returns
returns g c = record { opening = opening_is_sound; write = write_is_sound; read = read_is_sound }
