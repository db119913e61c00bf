-- Each term takes its members from the room, so the room left and the members counted are the whole room.
use Rattle.std.proofs.Common.{◌≡◌, ◌+◌, take, sum_by}
use Rattle.read_schedule.specs.Plans.{members}
use Rattle.read_schedule.proofs.plans.members_in_range.Given as goal

abbrev pub invariant-loop-term : goal.invariant-loop-term
invariant-loop-term l = l.left + sum_by (λ term. members term.plans) (take l.term-index l.terms) ≡ 10000
