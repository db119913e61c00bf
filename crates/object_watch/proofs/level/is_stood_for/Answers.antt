-- The one at the place so far.
use Rattle.std.proofs.Common.{◌<◌, length, refl, arith}
use Rattle.std.proofs.lemmas.Option.{slice_get_read}
use Rattle.object_watch.proofs.level.is_stood_for.Goals as goal

pub returns-then-is_in_place_of : goal.returns-then-is_in_place_of
returns-then-is_in_place_of g c t = (
  c.loop-i.i,
  c.index-rest-i.result,
  c.index-rest-place-then-one-end.result,
  before,
  slice_get_read c.args.rest.now (length c.args.rest.now) c.loop-i.i c.index-rest-i.result refl inside c.index-rest-i.is,
  slice_get_read c.args.rest.now (length c.args.rest.now) c.args.place c.index-rest-place-then-one-end.result refl c.requires
      c.index-rest-place-then-one-end.is,
  c.if-one-end.true,
  c.is_in_place_of.ensures c.if-is_in_place_of.true,
)
  where
    before : c.loop-i.i < c.args.place
    before = c.loop-i-test.true

    inside : c.loop-i.i < length c.args.rest.now
    inside = let l = c.requires in let m = c.loop-i-test.true in omega (arith, l, m)
