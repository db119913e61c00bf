-- The board ends with the passes of the lanes that are left, and the logs tell of their calls.
use Rattle.std.proofs.Common.{◌≡◌, ◌∙◌, ap, arith, length, sym, subst}
use Rattle.std.proofs.lemmas.List.{length-map}
use Rattle.board_live.specs.Ends.{IsGreatest}
use Rattle.board_live.specs.Left.{HaveAtomicOrderWith, SomePasses}
use Rattle.board_tasks.proofs.Left.{logs_beside, logs_with, some_passes}
use Rattle.board_tasks.proofs.lanes.finish_left.Goals as goal

pub finish_with-requires-clause-some : goal.finish_with-requires-clause-some
finish_with-requires-clause-some g c =
    let n : length c.in_ok-passes.passes.items ≡ length c.args.lanes.items =
    ap length c.in_ok-passes.ensures.passes ∙ length-map c.args.lanes.items (λ l. l.pass) in
    omega (arith, n, c.requires.some)

pub finish_with-requires-clause-passes : goal.finish_with-requires-clause-passes
finish_with-requires-clause-passes g c =
    subst (SomePasses g.F.Family g.V.RecordLaw.obeys c.args.board) (sym c.in_ok-passes.ensures.passes)
    (some_passes g.F.Family g.V.RecordLaw.obeys c.args.board c.args.lanes.items c.requires)

pub returns-clause-logs : goal.returns-clause-logs
returns-clause-logs g c = c.in_ok-passes.ensures.logs

pub returns-clause-last : goal.returns-clause-last
returns-clause-last g c = subst (λ ps. IsGreatest ps c.in_ok-last.last) c.in_ok-passes.ensures.passes c.in_ok-last.ensures.last

pub returns-clause-atomic : goal.returns-clause-atomic
returns-clause-atomic g c =
    logs_with g.F.Family g.V.RecordLaw.obeys c.args.board c.args.lanes.items c.requires
    (subst (λ ps. HaveAtomicOrderWith g.F.Family c.args.board ps) c.in_ok-passes.ensures.passes c.in_ok-last.ensures.atomic)

pub returns-clause-beside : goal.returns-clause-beside
returns-clause-beside g c =
    logs_beside g.F.Family g.V.RecordLaw.obeys c.args.board c.args.lanes.items c.requires
    (subst (λ ps. HaveAtomicOrderWith g.F.Family c.args.board ps) c.in_ok-passes.ensures.passes c.in_ok-last.ensures.atomic)
