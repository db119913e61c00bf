-- A pure operation alone, or all.
use Rattle.std.proofs.Common.{◌≡◌, true, slice_get, Option, None, Some}
use Rattle.std.proofs.lemmas.Result.{on_ok_weaker}
use Rattle.object_core.specs.declared.operation.Operation.{Operation}
use Rattle.object_sweep.specs.inner.Steps.{is_sure, IsSureAndPure}
use Rattle.object_sweep.specs.inner.Steps.{sure_at}
use Rattle.object_sweep.proofs.Adding.{visited_all, visited_pure}
use Rattle.object_sweep.proofs.ending.visit.Goals as goal

sure_of : {S W : Type 0} (after : S → W → Option S) (m : Option (Operation W)) → IsSureAndPure after m → is_sure m ≡ true
sure_of after None h = absurd h
sure_of after (Some o) h = h.0

pub returns-in-Some : goal.returns-in-Some
returns-in-Some g c =
    on_ok_weaker c.try_place.result
    (visited_pure (sure_at c.args.log.now) g.O.Object.after c.args.log.now c.args.under_way.now c.args.ending c.args.from.now.state
    c.args.from.now.placed.items
    c.in-Some.place (sure_of g.O.Object.after (slice_get c.args.log.now c.in-Some.place) c.in-Some.ensures.3) c.in-Some.ensures
    c.args.sets.now.waiting.items c.args.sets.now.kept.items c.try_place.new.sets.waiting.items
    c.try_place.new.sets.kept.items)
    c.try_place.ensures

pub returns-in-None : goal.returns-in-None
returns-in-None g c =
    on_ok_weaker c.explore.result
    (visited_all (sure_at c.args.log.now) g.O.Object.after c.args.log.now c.args.under_way.now c.args.ending c.args.from.now.state
    c.args.from.now.placed.items
    c.args.sets.now.waiting.items c.args.sets.now.kept.items c.explore.new.sets.waiting.items c.explore.new.sets.kept.items)
    c.explore.ensures
