-- It may be left out; then one more is tried.
use Rattle.object_sweep.specs.inner.Steps.{sure_at}
use Rattle.object_sweep.proofs.Reaching.{adds_left, adds_more}
use Rattle.object_sweep.proofs.narrow.explore_wanted.Goals as goal

pub loop-place-init : goal.loop-place-init
loop-place-init g c =
    adds_left g.O.Object.after c.args.log.now (sure_at c.args.log.now) c.args.under_way.now c.args.ending c.args.from.now.state
    c.args.from.now.placed.items c.args.sets.now.waiting.items c.args.sets.now.kept.items c.leave_out.new.sets.waiting.items
    c.leave_out.new.sets.kept.items c.in_ok-leave_out.ensures

pub loop-place-preserved : goal.loop-place-preserved
loop-place-preserved g c =
    adds_more g.O.Object.after c.args.log.now c.args.under_way.now c.args.ending c.args.from.now.state c.args.from.now.placed.items
    c.args.sets.now.waiting.items c.args.sets.now.kept.items c.loop-place.sets.waiting.items c.loop-place.sets.kept.items
    c.try_under_way.new.sets.waiting.items c.try_under_way.new.sets.kept.items c.loop-place.invariant c.in_ok-try_under_way.ensures
