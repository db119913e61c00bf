-- What is at the place, copied.
use Rattle.std.proofs.Common.{length, refl, ◌∙◌}
use Rattle.std.proofs.lemmas.Option.{slice_get_read}
use Rattle.object_watch.proofs.level.copied.Goals as goal

pub returns : goal.returns
returns g c = (
  c.index-held-place.result,
  slice_get_read c.args.held.now (length c.args.held.now) c.args.place c.index-held-place.result refl c.requires c.index-held-place.is,
  refl,
  c.in_ok-from_slice.ensures.items ∙ c.as_slice.ensures.value,
)
