-- What was found is what stands at the index.
use Rattle.std.proofs.Common.{◌≡◌, Some, None, slice_get, length, refl}
use Rattle.std.proofs.lemmas.Option.{slice_get_read, slice_get_past}
use Rattle.history_thinning.proofs.answer.place_in.Goals as goal

pub returns-in-Some : goal.returns-in-Some
returns-in-Some c =
    let t = c.in-Some.ensures.lookup in
    let at : slice_get c.args.places.now c.args.kept ≡ Some c.in-Some.place.now =
    slice_get_read c.args.places.now (length c.args.places.now) c.args.kept c.in-Some.place.now refl t.3.0 t.1 in
    rw at refl

pub returns-in-None : goal.returns-in-None
returns-in-None c =
    let t = c.in-None.ensures.lookup in
    let at : slice_get c.args.places.now c.args.kept ≡ None = slice_get_past c.args.places.now c.args.kept t.3 in
    rw at refl
