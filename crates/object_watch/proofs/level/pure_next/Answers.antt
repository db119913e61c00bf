-- The operation at the place.
use Rattle.std.proofs.Common.{◌≡◌, List, length, refl, subst, slice_get, Some}
use Rattle.std.proofs.lemmas.Option.{slice_get_read}
use Rattle.object_core.specs.declared.operation.Operation.{Operation}
use Rattle.object_watch.proofs.level.pure_next.Goals as goal

pub returns-then-is_pure_step : goal.returns-then-is_pure_step
returns-then-is_pure_step g c =
    let P : List (Operation g.row.O-What.Denot) → Type 0 = λ z. slice_get z c.loop-place.place ≡ Some c.index-rest-place.result in (
      c.index-rest-place.result,
      subst P c.as_slice-rest.ensures.value (slice_get_read c.as_slice-rest.result.now (length c.as_slice-rest.result.now)
          c.loop-place.place c.index-rest-place.result refl c.loop-place-test.true c.index-rest-place.is),
      c.is_pure_step.ensures c.if-is_pure_step.true,
    )
