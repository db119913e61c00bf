-- Each plan takes its members from the room, so the room left and the members counted are the room given.
use Rattle.std.proofs.Common.{◌≡◌, ◌+◌, take}
use Rattle.read_schedule.specs.Plans.{members}
use Rattle.read_schedule.proofs.plans.room_beside.Given as goal

abbrev pub invariant-loop-plan : goal.invariant-loop-plan
invariant-loop-plan l = l.left + members (take l.plan-index l.plans) ≡ l.room
