-- It leads on, or is kept.
use Rattle.std.proofs.Common.{ℕ, List, Option, None, ◌∙◌, subst}
use Rattle.std.proofs.lemmas.Result.{on_ok_weaker}
use Rattle.object_core.specs.declared.operation.Operation.{Operation}
use Rattle.object_watch.specs.inner.Levels.{IsEnding, IsEndingAt, IsPutAmong}
use Rattle.object_watch.proofs.Growing.{visited_kept, visited_led}
use Rattle.object_watch.proofs.level.visit.Goals as goal

pub returns-in-Some : goal.returns-in-Some
returns-in-Some g c =
    on_ok_weaker c.lead_on.result
    (visited_led g.O.Object.after c.args.end c.args.from.now.state c.args.from.now.rest.items c.args.seen.now.items c.lead_on.new.seen.items
    c.args.kept.now.items c.in-Some.place ends) c.lead_on.ensures
  where
    P : List (Operation g.row.O-What.Denot) → Type 0
    P z = IsEndingAt z c.args.end c.in-Some.place

    ends : IsEndingAt c.args.from.now.rest.items c.args.end c.in-Some.place
    ends = subst P c.as_slice.ensures.value c.in-Some.ensures

pub returns-in_ok-rest-in-None : goal.returns-in_ok-rest-in-None
returns-in_ok-rest-in-None g c = on_ok_weaker c.add.result (λ put.
    visited_kept g.O.Object.after c.args.end c.args.from.now.state c.args.from.now.rest.items c.args.seen.now.items c.args.kept.now.items
    c.add.new.held.items (subst P c.as_slice.ensures.value (subst Q c.in-None.is c.ending_at.ensures))
    (subst R (c.in_ok-rest-in-None.ensures.items ∙ c.as_slice-in-None.ensures.value) put)) c.add.ensures
  where
    P : List (Operation g.row.O-What.Denot) → Type 0
    P z = IsEnding z c.args.end None

    Q : Option ℕ → Type 0
    Q z = IsEnding c.as_slice.result.now c.args.end z

    R : List (Operation g.row.O-What.Denot) → Type 0
    R z = IsPutAmong g.O.Object.after c.args.end c.args.kept.now.items c.args.from.now.state z c.add.new.held.items

pub lead_on-requires : goal.lead_on-requires
lead_on-requires g c =
    let P : List (Operation g.row.O-What.Denot) → Type 0 = λ z. IsEndingAt z c.args.end c.in-Some.place in
    subst P c.as_slice.ensures.value c.in-Some.ensures
