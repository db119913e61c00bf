-- One covers it, or it is pushed.
use Rattle.std.proofs.Common.{List, refl, subst}
use Rattle.object_core.specs.declared.operation.Operation.{Operation}
use Rattle.object_watch.specs.declared.remainder.Remainder.{Remainder}
use Rattle.object_watch.specs.inner.Levels.{IsHeldWithSpare}
use Rattle.object_watch.proofs.Putting.{put_covered, put_last}
use Rattle.object_watch.proofs.level.add.Goals as goal

pub returns-then-is_covered : goal.returns-then-is_covered
returns-then-is_covered g c =
    let P : List (Remainder g.row.O.Denot g.row.O-What.Denot) → Type 0 =
    λ z. IsHeldWithSpare g.O.Object.after c.args.end z c.args.state c.as_slice-2.result.now in
    let Q : List (Operation g.row.O-What.Denot) → Type 0 =
    λ z. IsHeldWithSpare g.O.Object.after c.args.end c.args.held.now.items c.args.state z in
    put_covered g.O.Object.after c.args.end c.args.held.now.items c.args.state c.args.rest.items
    (subst Q c.as_slice-2.ensures.value (subst P c.as_slice.ensures.value (c.is_covered.ensures c.if-is_covered.true)))

pub returns : goal.returns
returns g c =
    rw c.in_ok-push.ensures.items (put_last g.O.Object.after c.args.end c.args.held.now.items c.args.state c.args.rest.items
    (record { state = c.args.state; rest = c.args.rest }) refl refl)
