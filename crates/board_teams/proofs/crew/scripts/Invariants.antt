-- A lawful script for each plan so far.
use Rattle.std.proofs.Common.{◌≡◌, All, List, length}
use Rattle.history_core.specs.Band.{fits}
use Rattle.history_core.specs.declared.band.Band.{Band}
use Rattle.history_core.specs.declared.wish.Wish.{Wish}
use Rattle.board_tasks.specs.Logs.{Obeys}
use Rattle.board_teams.proofs.crew.scripts.Given as goal

abbrev pub invariant-loop-plan : goal.invariant-loop-plan
invariant-loop-plan l = All (λ (t : List (Wish Band)). All (Obeys fits) t) l.all.items × (length l.all.items ≡ l.plan-index)
