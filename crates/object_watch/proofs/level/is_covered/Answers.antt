-- One covers it.
use Rattle.std.proofs.Common.{List, length, refl, subst}
use Rattle.std.proofs.lemmas.Option.{slice_get_read}
use Rattle.object_core.specs.declared.operation.Operation.{Operation}
use Rattle.object_watch.specs.inner.Levels.{AreWithSpare}
use Rattle.object_watch.proofs.level.is_covered.Goals as goal

pub returns-then-is_within : goal.returns-then-is_within
returns-then-is_within g c t = (
  c.loop-one.one-index,
  c.one-item.result,
  slice_get_read c.args.held.now (length c.args.held.now) c.loop-one.one-index c.one-item.result refl c.loop-one-test.true c.one-item.is,
  c.is.ensures.0 c.if-is.true,
  subst P c.as_slice.ensures.value (c.is_within.ensures c.if-is_within.true),
)
  where
    P : List (Operation g.row.O-What.Denot) → Type 0
    P z = AreWithSpare g.O.Object.after c.args.end c.args.rest.now z
