-- One more that waits is explored.
use Rattle.std.proofs.Common.{List, subst}
use Rattle.object_sweep.specs.declared.configuration.Configuration.{Configuration}
use Rattle.object_sweep.specs.inner.Steps.{IsCopyAt}
use Rattle.object_sweep.proofs.Reaching.{sound_more}
use Rattle.object_sweep.proofs.narrow.close_wanted.Goals as goal

pub loop-next-preserved : goal.loop-next-preserved
loop-next-preserved g c =
    let P : List (Configuration g.row.O.Denot) → Type 0 = λ z. IsCopyAt z c.loop-next.next c.in_ok-from.from in
    sound_more g.O.Object.after c.args.log.now c.args.under_way.now c.args.ending c.loop-next.next c.in_ok-from.from
    c.args.sets.now.waiting.items c.args.sets.now.kept.items c.loop-next.sets.waiting.items c.loop-next.sets.kept.items
    c.visit_wanted.new.sets.waiting.items c.visit_wanted.new.sets.kept.items c.loop-next.invariant
    (subst P c.as_slice.ensures.value c.in_ok-from.ensures) c.in_ok-visit_wanted.ensures
