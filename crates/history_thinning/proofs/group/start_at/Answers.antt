-- What was found is what stands at the index.
use Rattle.std.proofs.Common.{◌≡◌, Some, None, slice_get, length, refl}
use Rattle.std.proofs.lemmas.Option.{slice_get_read, slice_get_past}
use Rattle.history_thinning.proofs.group.start_at.Goals as goal

pub returns-in-Some : goal.returns-in-Some
returns-in-Some c =
    let t = c.in-Some.ensures.lookup in
    let at : slice_get c.args.kept.now c.args.index ≡ Some c.in-Some.op.now =
    slice_get_read c.args.kept.now (length c.args.kept.now) c.args.index c.in-Some.op.now refl t.3.0 t.1 in
    rw at refl

pub returns-in-None : goal.returns-in-None
returns-in-None c =
    let t = c.in-None.ensures.lookup in
    let at : slice_get c.args.kept.now c.args.index ≡ None = slice_get_past c.args.kept.now c.args.index t.3 in
    rw at refl
