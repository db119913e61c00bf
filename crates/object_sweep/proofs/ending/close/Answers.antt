-- One more is explored.
use Rattle.std.proofs.Common.{◌≡◌, ◌<◌, ◌≤◌, false, List, length, nat_le, subst, arith}
use Rattle.std.proofs.lemmas.Bool.Decides.{nat_tests}
use Rattle.object_sweep.specs.declared.configuration.Configuration.{Configuration}
use Rattle.object_sweep.specs.inner.Steps.{IsCopyAt}
use Rattle.object_sweep.specs.inner.Steps.{sure_at}
use Rattle.object_sweep.proofs.Adding.{closed, explored_next}
use Rattle.object_sweep.proofs.ending.close.Goals as goal

pub loop-next-preserved : goal.loop-next-preserved
loop-next-preserved g c =
    let P : List (Configuration g.row.O.Denot) → Type 0 = λ z. IsCopyAt z c.loop-next.next c.in_ok-from.from in
    explored_next (sure_at c.args.log.now) g.O.Object.after c.args.log.now c.args.under_way.now c.args.ending c.loop-next.next
    c.in_ok-from.from
    c.args.sets.now.waiting.items c.args.sets.now.kept.items c.loop-next.sets.waiting.items c.loop-next.sets.kept.items
    c.visit.new.sets.waiting.items c.visit.new.sets.kept.items c.loop-next.invariant
    (subst P c.as_slice.ensures.value c.in_ok-from.ensures) c.in_ok-visit.ensures

pub returns : goal.returns
returns g c = closed (sure_at c.args.log.now) g.O.Object.after c.args.log.now c.args.under_way.now c.args.ending c.args.budget
    c.loop-next.next
    c.args.sets.now.waiting.items c.args.sets.now.kept.items c.loop-next.sets.waiting.items c.loop-next.sets.kept.items
    c.loop-next.invariant few _ many
  where
    few : length c.loop-next.sets.waiting.items ≤ c.loop-next.next
    few = let e = c.len.ensures in let l = c.loop-next-test.false in omega (arith, e, l)

    many : nat_le c.len-2.result c.args.budget ≡ false → c.args.budget < length c.loop-next.sets.kept.items
    many e = let k = c.len-2.ensures in grind (arith, nat_tests)
