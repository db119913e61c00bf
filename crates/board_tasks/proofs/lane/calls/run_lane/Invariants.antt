-- The calls so far were made in turn, each with its entry in the log.
use Rattle.board_tasks.specs.Tasks.{Permitted}
use Rattle.board_tasks.proofs.Runs.{RunSoFar}
use Rattle.board_tasks.proofs.lane.calls.run_lane.Given as goal

abbrev pub invariant-loop-call : goal.invariant-loop-call
invariant-loop-call g l = RunSoFar g.F.Family g.V.RecordLaw.obeys (Permitted g.G.Gate.is_for l.gate l.task) l.board l.fn.lane l.lane l.call
