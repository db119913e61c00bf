-- The calls so far are lawful.
use Rattle.std.proofs.Common.{All}
use Rattle.history_core.specs.Band.{fits}
use Rattle.board_tasks.specs.Logs.{Obeys}
use Rattle.test_growths.proofs.lanes.script.Given as goal

abbrev pub invariant-loop : goal.invariant-loop
invariant-loop l = All (Obeys fits) l.wishes.items
