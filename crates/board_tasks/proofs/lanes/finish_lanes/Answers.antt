-- The board ends with the passes of the lanes, and the logs tell of their calls.
use Rattle.std.proofs.Common.{sym, subst}
use Rattle.board_live.specs.Ends.{AllPasses, HaveAtomicOrder, IsGreatest}
use Rattle.board_tasks.proofs.Logged.{all_passes, logs_atomic}
use Rattle.board_tasks.proofs.Ordered.{lanes_in_order}
use Rattle.board_tasks.proofs.lanes.finish_lanes.Goals as goal

pub finish-requires : goal.finish-requires
finish-requires g c =
    subst (AllPasses g.F.Family g.V.RecordLaw.obeys c.args.board) (sym c.in_ok-passes.ensures.passes)
    (all_passes g.F.Family g.V.RecordLaw.obeys c.args.board c.args.lanes.items c.requires)

pub returns-clause-logs : goal.returns-clause-logs
returns-clause-logs g c = c.in_ok-passes.ensures.logs

pub returns-clause-atomic : goal.returns-clause-atomic
returns-clause-atomic g c =
    logs_atomic g.F.Family g.V.RecordLaw.obeys c.args.board c.args.lanes.items c.requires c.finish.result
    (subst (λ ps. HaveAtomicOrder g.F.Family c.args.board ps c.finish.result) c.in_ok-passes.ensures.passes c.finish.ensures.atomic)

pub returns-clause-last : goal.returns-clause-last
returns-clause-last g c =
    subst (λ ps. IsGreatest ps c.finish.result) c.in_ok-passes.ensures.passes c.finish.ensures.last

pub returns-clause-ordered : goal.returns-clause-ordered
returns-clause-ordered g c =
    lanes_in_order g.F.Family g.V.RecordLaw.obeys c.args.board c.args.lanes.items c.finish.result c.requires
    (logs_atomic g.F.Family g.V.RecordLaw.obeys c.args.board c.args.lanes.items c.requires c.finish.result
    (subst (λ ps. HaveAtomicOrder g.F.Family c.args.board ps c.finish.result) c.in_ok-passes.ensures.passes c.finish.ensures.atomic))
