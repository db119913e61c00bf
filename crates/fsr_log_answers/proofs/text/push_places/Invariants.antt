-- Each turn prints one blank and one place behind what was printed before.
use Rattle.std.proofs.Common.{◌≡◌, ◌++◌, take}
use Rattle.fsr_log_answers.specs.Text.{places_text}
use Rattle.fsr_log_answers.proofs.text.push_places.Given as goal

abbrev pub invariant-loop-place : goal.invariant-loop-place
invariant-loop-place l = l.text.items ≡ l.initial.text.items ++ places_text (take l.place-index l.places)
