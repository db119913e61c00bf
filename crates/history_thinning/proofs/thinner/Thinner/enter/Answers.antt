-- The operation is refused, dropped or joins its record.
use Rattle.history_thinning.proofs.Steps.{has_fault, is_entered, is_skipped, thinned_grown, thinned_same}
use Rattle.history_thinning.proofs.thinner.Thinner.enter.Goals as goal

pub returns-in-Some-clause-fault : goal.returns-in-Some-clause-fault
returns-in-Some-clause-fault c = λ log here known.
    has_fault log c.args.op c.args.place here c.drop_unused.new.self.rows.ops.items c.drop_unused.new.self.rows.places.items
    c.drop_unused.new.self.roles.items (c.drop_unused.ensures log known) c.as_slice.result.now c.as_slice.ensures.value
    c.as_slice-2.result.now c.as_slice-2.ensures.value c.entry_fault.result c.entry_fault.ensures c.in-Some.fault c.in-Some.is

pub returns-in_default-counted_number-clause-entered : goal.returns-in_default-counted_number-clause-entered
returns-in_default-counted_number-clause-entered c = λ log here known.
    is_skipped log c.args.op c.args.place here c.drop_unused.new.self.rows.ops.items c.drop_unused.new.self.rows.places.items
    c.drop_unused.new.self.roles.items (c.drop_unused.ensures log known) c.as_slice.result.now c.as_slice.ensures.value
    c.as_slice-2.result.now c.as_slice-2.ensures.value c.entry_fault.result c.entry_fault.ensures c.in_default.not-Some
    c.counted_number.result c.counted_number.ensures c.requires c.in_default-counted_number.not-Some

pub returns-in-Err-clause-unchanged : goal.returns-in-Err-clause-unchanged
returns-in-Err-clause-unchanged c = λ log known.
    thinned_grown log c.args.op c.drop_unused.new.self.rows.ops.items c.drop_unused.new.self.rows.places.items
    c.drop_unused.new.self.roles.items (c.drop_unused.ensures log known) c.make_room.new.roles.items c.in-Err.ensures.failed

pub returns-in-Ok-join-clause-entered : goal.returns-in-Ok-join-clause-entered
returns-in-Ok-join-clause-entered c = λ log here known.
    is_entered log c.args.op c.args.place here c.drop_unused.new.self.rows.ops.items c.drop_unused.new.self.rows.places.items
    c.drop_unused.new.self.roles.items (c.drop_unused.ensures log known) c.as_slice.result.now c.as_slice.ensures.value
    c.as_slice-2.result.now c.as_slice-2.ensures.value c.entry_fault.result c.entry_fault.ensures c.in_default.not-Some
    c.counted_number.result c.counted_number.ensures c.in-Some-counted_number.number c.in-Some-counted_number.is
    c.make_room.new.roles.items c.in-Ok.ensures.grown c.in-Ok.ensures.room c.in-Ok-join.ensures.few c.join.new.rows.ops.items
    c.in-Ok-join.ensures.ops c.join.new.rows.places.items c.in-Ok-join.ensures.places c.join.new.roles.items c.in-Ok-join.ensures.roles

pub returns-in-Err-join-clause-unchanged : goal.returns-in-Err-join-clause-unchanged
returns-in-Err-join-clause-unchanged c = λ log known.
    let ops = c.drop_unused.new.self.rows.ops.items in
    let places = c.drop_unused.new.self.rows.places.items in
    thinned_same log ops places c.make_room.new.roles.items
    (thinned_grown log c.args.op ops places c.drop_unused.new.self.roles.items (c.drop_unused.ensures log known)
    c.make_room.new.roles.items c.in-Ok.ensures.grown)
    c.join.new.rows.ops.items c.in-Err-join.ensures.same_ops c.join.new.rows.places.items c.in-Err-join.ensures.same_places
    c.join.new.roles.items c.in-Err-join.ensures.same_roles
