-- The next of them is met.
use Rattle.std.proofs.Common.{length, refl, inl}
use Rattle.std.proofs.lemmas.Option.{slice_get_read}
use Rattle.object_watch.proofs.level.next_met.Goals as goal

pub returns-then-is_alike : goal.returns-then-is_alike
returns-then-is_alike g c = inl (
  c.index-rest-met.result,
  slice_get_read c.args.rest.now (length c.args.rest.now) c.args.met c.index-rest-met.result refl c.if-met-rest.true c.index-rest-met.is,
  c.is_alike.ensures c.if-is_alike.true,
  refl,
)
