-- A script for each task so far.
use Rattle.std.proofs.Common.{◌≡◌, All, List, length}
use Rattle.history_core.specs.Band.{fits}
use Rattle.history_core.specs.declared.band.Band.{Band}
use Rattle.history_core.specs.declared.wish.Wish.{Wish}
use Rattle.board_tasks.specs.Logs.{Obeys}
use Rattle.test_growths.proofs.lanes.scripts.Given as goal

abbrev pub invariant-loop : goal.invariant-loop
invariant-loop l = All (λ (t : List (Wish Band)). All (Obeys fits) t) l.all.items × (length l.all.items ≡ l.counter)
