-- Each wish so far obeys the law.
use Rattle.std.proofs.Common.{All}
use Rattle.history_core.specs.Band.{fits}
use Rattle.board_tasks.specs.Logs.{Obeys}
use Rattle.board_teams.proofs.crew.script.Given as goal

abbrev pub invariant-loop-number : goal.invariant-loop-number
invariant-loop-number l = All (Obeys fits) l.wishes.items
