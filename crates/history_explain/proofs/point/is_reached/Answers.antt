-- What was found is what stands at the place; looked for at once, so that another value is refused at once.
use Rattle.std.proofs.Common.{◌≡◌, Some, length, refl, rules, slice_get}
use Rattle.std.proofs.lemmas.Option.{slice_get_read}
use Rattle.history_explain.proofs.point.is_reached.Goals as goal

pub returns-in-Some-ends : goal.returns-in-Some-ends
returns-in-Some-ends g c =
    let t = c.in-Some.ensures.lookup in
    let at : slice_get c.args.ops.now c.args.place ≡ Some c.in-Some.op.now =
    slice_get_read c.args.ops.now (length c.args.ops.now) c.args.place c.in-Some.op.now refl t.3.0 t.1 in
    rw (at, c.in-Some-ends.is) (search rules)
