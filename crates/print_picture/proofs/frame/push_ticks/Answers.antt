-- A moment is put on the axis behind those before it.
use Rattle.print_picture.proofs.Rows.{tick_step}
use Rattle.print_picture.proofs.frame.push_ticks.Goals as goal

pub loop-n-preserved : goal.loop-n-preserved
loop-n-preserved c = tick_step c.args.moments.now c.args.scale.now c.args.high c.loop-n.n _ _ _ c.loop-n.invariant c.in_ok-push_tick.ensures
