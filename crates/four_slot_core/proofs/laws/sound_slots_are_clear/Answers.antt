-- A reader past R3 is in the slot that R3 chose, and by the invariant a writer that has a slot has another one.
use Rattle.four_slot_core.proofs.events.Keeping.{clear_of_sound, opening_unmet, write_unmet, read_unmet}
use Rattle.four_slot_core.proofs.laws.sound_slots_are_clear.Goals as goal

pub returns : goal.returns
returns g c = record { apart = clear_of_sound; opening = opening_unmet; write = write_unmet; read = read_unmet }
