-- The one at hand.
use Rattle.std.proofs.Common.{get_or}
use Rattle.std.proofs.lemmas.Option.{slice_get-get_or}
use Rattle.object_sweep.proofs.ending.is_stood_for.Goals as goal

pub returns-then-may_stand_for : goal.returns-then-may_stand_for
returns-then-may_stand_for g c t = (
  c.loop-one.one-index,
  get_or c.args.tried.now c.loop-one.one-index 0,
  slice_get-get_or c.args.tried.now c.loop-one.one-index 0 c.loop-one-test.true,
  c.may_stand_for.ensures c.if-may_stand_for.true,
)
