-- One more call adds its entry; the loop ends where the script does, or where the gate may stop the call.
use Rattle.std.proofs.Common.{rules, arith, ◌≡◌, inl, inr, length, ap}
use Rattle.board_tasks.specs.Tasks.{Permitted}
use Rattle.board_tasks.proofs.Runs.{run_none, run_more, run_ends}
use Rattle.board_tasks.proofs.lane.calls.run_lane.Goals as goal

pub loop-call-preserved : goal.loop-call-preserved
loop-call-preserved g c =
    run_more g.F.Family g.V.RecordLaw.obeys
    (Permitted g.G.Gate.is_for c.args.gate.now c.args.task) c.args.board.now c.args.lane.now c.loop-call.lane c.call.new.self
    c.loop-call.call c.loop-call.invariant
    (c.in-Some.permit, c.in-Some.ensures.given)
    c.call.ensures.pass c.call.ensures.lane c.call.ensures.script c.call.ensures.entry.0 c.call.ensures.entry.1 c.call.ensures.entry.2

pub returns : goal.returns
returns g c =
    let inv = c.loop-call.invariant in
    let n : c.loop-call.call ≡ length c.args.lane.now.script.items = search rules in
    run_ends g.F.Family g.V.RecordLaw.obeys (Permitted g.G.Gate.is_for c.args.gate.now)
    (g.G.Gate.may_stop c.args.gate.now) c.args.board.now c.args.task c.args.lane.now c.loop-call.lane c.loop-call.call inv
    (inl (omega (arith, n, inv.count, ap (λ v. length v.items) inv.same_script)))

pub returns-in_default : goal.returns-in_default
returns-in_default g c =
    let inv = c.loop-call.invariant in
    run_ends g.F.Family g.V.RecordLaw.obeys (Permitted g.G.Gate.is_for c.args.gate.now)
    (g.G.Gate.may_stop c.args.gate.now) c.args.board.now c.args.task c.args.lane.now c.loop-call.lane c.loop-call.call inv
    (inr (rw inv.count c.in_default.ensures.stops))

pub loop-call-init : goal.loop-call-init
loop-call-init g c =
    let n : c.len-call.result ≡ length c.args.lane.now.log.items = search rules in
    rw n (run_none g.F.Family g.V.RecordLaw.obeys
    (Permitted g.G.Gate.is_for c.args.gate.now c.args.task) c.args.board.now c.args.lane.now c.requires.pass c.requires.lane)
