-- What was found is what stands at the index.
use Rattle.std.proofs.Common.{◌≡◌, Some, None, slice_get, length, refl, ap, Bool}
use Rattle.std.specs.Prelude.{if◌then◌else◌}
use Rattle.std.proofs.lemmas.Option.{slice_get_read, slice_get_past}
use Rattle.history_thinning.proofs.compact.user_of.Goals as goal

pub returns-in_err-get : goal.returns-in_err-get
returns-in_err-get c =
    let at : slice_get c.args.ops.now c.args.index ≡ None = slice_get_past c.args.ops.now c.args.index c.in_err-get.ensures.lookup.3 in
    rw at c.from_residual.ensures

pub returns-in_err-number : goal.returns-in_err-number
returns-in_err-number c =
    let t = c.in_ok-get.ensures.lookup in
    let at : slice_get c.args.ops.now c.args.index ≡ Some c.in_ok-get.field-0.now =
    slice_get_read c.args.ops.now (length c.args.ops.now) c.args.index c.in_ok-get.field-0.now refl t.3.0 t.1 in
    let item : c.in_ok-get.field-0.now.item ≡ None = c.in_err-number.was in
    rw (at, item) c.from_residual-in_err-number.ensures

pub returns-in_err-own : goal.returns-in_err-own
returns-in_err-own c =
    let t = c.in_ok-get.ensures.lookup in
    let at : slice_get c.args.ops.now c.args.index ≡ Some c.in_ok-get.field-0.now =
    slice_get_read c.args.ops.now (length c.args.ops.now) c.args.index c.in_ok-get.field-0.now refl t.3.0 t.1 in
    let item : c.in_ok-get.field-0.now.item ≡ Some c.in_ok-number.number = c.in_ok-number.was in
    let own : slice_get c.args.roles.now c.in_ok-number.number ≡ None =
    slice_get_past c.args.roles.now c.in_ok-number.number c.in_err-own.ensures.lookup.3 in
    rw (at, item, own) c.from_residual-in_err-own.ensures

pub returns-then-has_role : goal.returns-then-has_role
returns-then-has_role c =
    let t = c.in_ok-get.ensures.lookup in
    let at : slice_get c.args.ops.now c.args.index ≡ Some c.in_ok-get.field-0.now =
    slice_get_read c.args.ops.now (length c.args.ops.now) c.args.index c.in_ok-get.field-0.now refl t.3.0 t.1 in
    let item : c.in_ok-get.field-0.now.item ≡ Some c.in_ok-number.number = c.in_ok-number.was in
    let u = c.in_ok-own.ensures.lookup in
    let own : slice_get c.args.roles.now c.in_ok-number.number ≡ Some c.in_ok-own.own.now =
    slice_get_read c.args.roles.now (length c.args.roles.now) c.in_ok-number.number c.in_ok-own.own.now refl u.3.0 u.1 in
    rw (at, item, own) (ap (λ (b : Bool). if b then Some c.in_ok-number.number else None) c.if-has_role.ensures)

pub returns-else-has_role : goal.returns-else-has_role
returns-else-has_role c =
    let t = c.in_ok-get.ensures.lookup in
    let at : slice_get c.args.ops.now c.args.index ≡ Some c.in_ok-get.field-0.now =
    slice_get_read c.args.ops.now (length c.args.ops.now) c.args.index c.in_ok-get.field-0.now refl t.3.0 t.1 in
    let item : c.in_ok-get.field-0.now.item ≡ Some c.in_ok-number.number = c.in_ok-number.was in
    let u = c.in_ok-own.ensures.lookup in
    let own : slice_get c.args.roles.now c.in_ok-number.number ≡ Some c.in_ok-own.own.now =
    slice_get_read c.args.roles.now (length c.args.roles.now) c.in_ok-number.number c.in_ok-own.own.now refl u.3.0 u.1 in
    rw (at, item, own) (ap (λ (b : Bool). if b then Some c.in_ok-number.number else None) c.if-has_role.ensures)
