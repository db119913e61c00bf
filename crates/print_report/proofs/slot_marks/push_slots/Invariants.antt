-- Each turn prints one blank and one slot behind what was printed before.
use Rattle.std.proofs.Common.{◌≡◌, ◌++◌, take}
use Rattle.print_report.specs.Text.{slots_text}
use Rattle.print_report.proofs.slot_marks.push_slots.Given as goal

abbrev pub invariant-loop-slot : goal.invariant-loop-slot
invariant-loop-slot l = l.text.items ≡ l.initial.text.items ++ slots_text (take l.slot-index l.slots)
