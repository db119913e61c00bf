-- Each part gives one entry, so what is listed so far are the slots of the parts passed.
use Rattle.std.proofs.Common.{◌≡◌, map, take}
use Rattle.four_slot_play.specs.inner.Parts.{slot_of}
use Rattle.four_slot_play.proofs.player.report.Played.slots.Given as goal

abbrev pub invariant-loop-part : goal.invariant-loop-part
invariant-loop-part g l = l.slots.items ≡ map (slot_of l.self.run.write_slots.items l.self.run.read_slots.items) (take l.part-index l.parts)
