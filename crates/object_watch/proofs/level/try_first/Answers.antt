-- An earlier one may be placed for it, or it is tried.
use Rattle.std.proofs.Common.{List, inl, inr, subst}
use Rattle.std.proofs.lemmas.Result.{on_ok_weaker}
use Rattle.object_core.specs.declared.operation.Operation.{Operation}
use Rattle.object_watch.specs.inner.Levels.{HasStandIn}
use Rattle.object_watch.proofs.Growing.{grown_not}
use Rattle.object_watch.proofs.level.try_first.Goals as goal

pub returns-then-is_stood_for-clause-grown : goal.returns-then-is_stood_for-clause-grown
returns-then-is_stood_for-clause-grown g c = grown_not g.O.Object.after c.args.end c.args.from.now.state c.args.from.now.rest.items
    c.args.seen.now.items

pub returns-then-is_stood_for-clause-tried : goal.returns-then-is_stood_for-clause-tried
returns-then-is_stood_for-clause-tried g c =
    let P : List (Operation g.row.O-What.Denot) → Type 0 = λ z. HasStandIn g.O.Object.after c.args.end z c.args.place in
    inl (subst P c.as_slice.ensures.value (c.is_stood_for.ensures c.if-is_stood_for.true))

pub returns-clause-tried : goal.returns-clause-tried
returns-clause-tried g c = on_ok_weaker c.try_place.result (λ x. inr x) c.try_place.ensures.placed
