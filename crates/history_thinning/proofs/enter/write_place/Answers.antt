-- What was found is what stands at the index.
use Rattle.std.proofs.Common.{◌≡◌, None, slice_get, refl}
use Rattle.std.proofs.lemmas.Option.{slice_get_past}
use Rattle.history_thinning.proofs.enter.write_place.Goals as goal

pub returns-in-None : goal.returns-in-None
returns-in-None c =
    let t = c.in-None.ensures.lookup in
    let at : slice_get c.args.roles.now c.args.number ≡ None = slice_get_past c.args.roles.now c.args.number t.3 in
    rw at refl
