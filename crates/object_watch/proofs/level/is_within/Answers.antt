-- One more of the others is met.
use Rattle.std.proofs.Common.{length, refl, arith}
use Rattle.std.proofs.lemmas.Option.{slice_get_read}
use Rattle.object_watch.specs.inner.Levels.AreWithSpare.{Ends}
use Rattle.object_watch.proofs.Within.{within_next}
use Rattle.object_watch.proofs.level.is_within.Goals as goal

pub loop-i-init : goal.loop-i-init
loop-i-init g c = (omega arith, Ends)

pub loop-i-preserved : goal.loop-i-preserved
loop-i-preserved g c =
    within_next g.O.Object.after c.args.end c.args.rest.now c.args.others.now c.loop-i.met c.loop-i.i c.in-Some.more
    c.index-others-i.result
    (slice_get_read c.args.others.now (length c.args.others.now) c.loop-i.i c.index-others-i.result refl c.loop-i-test.true
    c.index-others-i.is) c.loop-i.invariant c.in-Some.ensures
