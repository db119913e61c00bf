-- One more is sorted.
use Rattle.std.proofs.Common.{◌≡◌, ℕ, ◌≤◌, length, refl, arith, subst}
use Rattle.std.proofs.lemmas.Option.{slice_get_read}
use Rattle.object_sweep.specs.inner.Steps.{sure_at, AreStarted}
use Rattle.object_sweep.proofs.Adding.{started_more}
use Rattle.object_sweep.proofs.ending.start.Goals as goal

pub loop-one-preserved : goal.loop-one-preserved
loop-one-preserved g c =
    started_more (sure_at c.args.log.now) g.O.Object.after c.args.log.now c.args.ending c.loop-one.one-index c.args.configurations.now
    c.one-item.result
    (slice_get_read c.args.configurations.now (length c.args.configurations.now) c.loop-one.one-index c.one-item.result refl
    c.loop-one-test.true c.one-item.is) c.loop-one.sets.waiting.items c.loop-one.sets.kept.items c.sort.new.sets.waiting.items
    c.sort.new.sets.kept.items c.loop-one.invariant c.in_ok-sort.ensures

pub returns : goal.returns
returns g c =
    let done : length c.args.configurations.now ≤ c.loop-one.one-index = c.loop-one-test.false in
    let same : c.loop-one.one-index ≡ length c.args.configurations.now = let l = c.loop-one.auto.one-index-end in omega arith in
    let P : ℕ → Type 0 = λ z. AreStarted (sure_at c.args.log.now) g.O.Object.after c.args.log.now c.args.ending z c.args.configurations.now
    c.loop-one.sets.waiting.items
    c.loop-one.sets.kept.items in
    subst P same c.loop-one.invariant
