-- What was found is what stands at the place.
use Rattle.std.proofs.Common.{◌≡◌, Some, None, slice_get, length, refl, rules}
use Rattle.std.proofs.lemmas.Option.{slice_get_read, slice_get_past}
use Rattle.history_search.proofs.turn.is_turned.Goals as goal

pub returns-in-Some-ends : goal.returns-in-Some-ends
returns-in-Some-ends g c =
    let t = c.in-Some.ensures.lookup in
    let at : slice_get c.args.ops.now c.args.y.now.place ≡ Some c.in-Some.op.now =
    slice_get_read c.args.ops.now (length c.args.ops.now) c.args.y.now.place c.in-Some.op.now refl t.3.0 t.1 in
    rw at (search rules)

pub returns-in-None-ends : goal.returns-in-None-ends
returns-in-None-ends g c =
    let t = c.in-Some.ensures.lookup in
    let at : slice_get c.args.ops.now c.args.y.now.place ≡ Some c.in-Some.op.now =
    slice_get_read c.args.ops.now (length c.args.ops.now) c.args.y.now.place c.in-Some.op.now refl t.3.0 t.1 in
    rw at (search rules)

pub returns-in-None : goal.returns-in-None
returns-in-None g c =
    let t = c.in-None.ensures.lookup in
    let at : slice_get c.args.ops.now c.args.y.now.place ≡ None = slice_get_past c.args.ops.now c.args.y.now.place t.3 in
    rw at (search rules)
