-- The middle entry says on which side the place is.
use Rattle.std.proofs.Common.{◌≡◌, ◌+◌, ◌/◌, ◌-◌, arith, refl, length, sym, ◌∙◌}
use Rattle.std.specs.Prelude.{slice_get, Some}
use Rattle.std.proofs.lemmas.Option.{slice_get_read}
use Rattle.board_tasks.proofs.FoundWrites.{part_high, part_low, parted_all, parted_none}
use Rattle.board_tasks.proofs.origin.known.first_from.Goals as goal

pub loop-low-preserved-then-is_below : goal.loop-low-preserved-then-is_below
loop-low-preserved-then-is_below g c =
    let low = c.loop-low.low in
    let high = c.loop-low.high in
    let middle = low + (high - low) / 2 in
    let test = c.loop-low-test.true in
    let inside = c.loop-low.invariant.inside in
    let at : slice_get c.args.log.now middle ≡ Some c.index-log-middle.result =
    slice_get_read c.args.log.now (length c.args.log.now) middle c.index-log-middle.result refl (omega arith) c.index-log-middle.is in
    part_low c.args.task c.args.log.now c.requires c.args.stamp low high middle c.index-log-middle.result c.loop-low.invariant
    (omega arith) (omega arith) at (sym c.is_below.ensures ∙ c.if-is_below.true)

pub loop-low-preserved : goal.loop-low-preserved
loop-low-preserved g c =
    let low = c.loop-low.low in
    let high = c.loop-low.high in
    let middle = low + (high - low) / 2 in
    let test = c.loop-low-test.true in
    let inside = c.loop-low.invariant.inside in
    let at : slice_get c.args.log.now middle ≡ Some c.index-log-middle.result =
    slice_get_read c.args.log.now (length c.args.log.now) middle c.index-log-middle.result refl (omega arith) c.index-log-middle.is in
    part_high c.args.task c.args.log.now c.requires c.args.stamp low high middle c.index-log-middle.result c.loop-low.invariant
    (omega arith) (omega arith) at (sym c.is_below.ensures ∙ c.if-is_below.false)

pub loop-low-init : goal.loop-low-init
loop-low-init g c = parted_none c.args.task c.args.log.now c.requires c.args.stamp

pub returns : goal.returns
returns g c =
    parted_all c.args.task c.args.log.now c.requires c.args.stamp c.loop-low.low c.loop-low.high c.loop-low.invariant c.loop-low-test.false
