-- Each term takes its steps from the room, so the room left and the steps counted are the whole room.
use Rattle.std.proofs.Common.{◌≡◌, ◌+◌, take, sum_by, length}
use Rattle.read_schedule.proofs.plans.all_steps_in_range.Given as goal

abbrev pub invariant-loop-term : goal.invariant-loop-term
invariant-loop-term l = l.left + sum_by (λ term. length term.steps) (take l.term-index l.terms) ≡ 100000
