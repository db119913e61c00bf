-- What is at the place, copied.
use Rattle.std.proofs.Common.{length, refl, ◌∙◌}
use Rattle.std.proofs.lemmas.Option.{slice_get_read}
use Rattle.object_sweep.proofs.ending.copied.Goals as goal

pub returns : goal.returns
returns g c = (
  c.index-held-place.result,
  slice_get_read c.args.held.now (length c.args.held.now) c.args.place c.index-held-place.result refl c.requires c.index-held-place.is,
  (c.new.ensures.0, c.new.ensures.1 ∙ c.in_ok-placed.ensures.items ∙ c.as_slice.ensures.value),
)
