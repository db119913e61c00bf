-- What was found is what stands at the place.
use Rattle.std.proofs.Common.{◌≡◌, Some, None, slice_get, length, refl}
use Rattle.std.proofs.lemmas.Option.{slice_get_read, slice_get_past}
use Rattle.history_search.proofs.group_search.kind_at.Goals as goal

pub returns-in-Some : goal.returns-in-Some
returns-in-Some g c =
    let t = c.in-Some.ensures.lookup in
    let at : slice_get c.args.ops.now c.args.place ≡ Some c.in-Some.op.now =
    slice_get_read c.args.ops.now (length c.args.ops.now) c.args.place c.in-Some.op.now refl t.3.0 t.1 in
    rw at refl

pub returns-in-None : goal.returns-in-None
returns-in-None g c =
    let t = c.in-None.ensures.lookup in
    let at : slice_get c.args.ops.now c.args.place ≡ None = slice_get_past c.args.ops.now c.args.place t.3 in
    rw at refl
