-- What was found is what stands at the place.
use Rattle.std.proofs.Common.{◌≡◌, ◌∙◌, Some, None, slice_get, length, refl, ap, rules}
use Rattle.std.proofs.lemmas.Option.{slice_get_read, slice_get_past}
use Rattle.history_search.proofs.rank.group_at.Goals as goal

pub returns-in-Some-Some : goal.returns-in-Some-Some
returns-in-Some-Some c =
    let t = c.in-Some-Some.ensures.lookup in
    let at = slice_get_read c.args.groups.now (length c.args.groups.now) c.args.place c.in-Some-Some.field-0.now refl t.3.0 t.1 in
    rw (at ∙ ap Some c.in-Some-Some.field-0-is) refl

pub returns-in_default : goal.returns-in_default
returns-in_default c =
    let t = rw c.in_default.is at c.get.ensures.lookup in
    let at = slice_get_read c.args.groups.now (length c.args.groups.now) c.args.place c.in_default.field-0.now refl t.3.0 t.1 in
    rw at (search rules)

pub returns-in_default-2 : goal.returns-in_default-2
returns-in_default-2 c =
    let t = rw c.in_default.is at c.get.ensures.lookup in
    let at : slice_get c.args.groups.now c.args.place ≡ None = slice_get_past c.args.groups.now c.args.place t.3 in
    rw at refl
