-- The lanes of the last passes were made.
use Rattle.std.proofs.Common.{◌≡◌, ◌+◌, length}
use Rattle.board_tasks.proofs.LaneLists.{LanesFrom}
use Rattle.board_tasks.proofs.lanes.make_lanes.Given as goal

abbrev pub invariant-loop : goal.invariant-loop
invariant-loop g l =
    LanesFrom g.F.Family g.V.RecordLaw.obeys l.fn.passes.items l.fn.scripts l.passes.items l.scripts.items l.lanes.items
    × (length l.passes.items + l.counter ≡ length l.fn.passes.items)
