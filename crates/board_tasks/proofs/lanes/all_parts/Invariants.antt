-- The passes and the logs of the last lanes were taken out.
use Rattle.std.proofs.Common.{◌≡◌, ◌+◌, length}
use Rattle.board_live.proofs.Mapping.{MappedFrom}
use Rattle.board_tasks.proofs.lanes.all_parts.Given as goal

abbrev pub invariant-loop : goal.invariant-loop
invariant-loop g l =
    MappedFrom (λ l. l.pass) l.fn.lanes.items l.lanes.items l.passes.items
    × MappedFrom (λ l. l.log) l.fn.lanes.items l.lanes.items l.logs.items
    × (length l.lanes.items + l.counter ≡ length l.fn.lanes.items)
