-- One more entry keeps or breaks the rule by its own kind and item alone.
use Rattle.std.proofs.Common.{arith, refl, ap, ◌∙◌}
use Rattle.history_core.specs.Orders.{left_by}
use Rattle.history_check.proofs.Entries.{entry_in}
use Rattle.history_core.proofs.Listed.{listed_read}
use Rattle.history_check.proofs.Forwards.{latest_step, reads_step, reads_broken, reads_all}
use Rattle.history_check.proofs.check.reading.reads_latest.Goals as goal

pub returns-in-None : goal.returns-in-None
returns-in-None g c =
    let at = listed_read c.args.ops.now c.args.order.now c.loop-place.place-index c.index-ops-place.result c.requires
    (omega arith) c.index-ops-place.is in
    (λ t. cc, λ all. absurd (c.in-None.ensures.wrong (reads_broken _ _ _ _ _ _ _ at c.loop-place.invariant.held all)))

pub loop-place-preserved : goal.loop-place-preserved
loop-place-preserved g c =
    let at = listed_read c.args.ops.now c.args.order.now c.loop-place.place-index c.index-ops-place.result c.requires
    (omega arith) c.index-ops-place.is in
    record {
      reads = reads_step _ _ _ _ _ _ _ at c.loop-place.invariant.held c.in-Some.ensures.right c.loop-place.invariant.reads;
      held =
          latest_step c.args.opening c.args.ops.now c.args.order.now c.loop-place.place-index c.index-ops-place.result at
          ∙ ap (λ w. left_by w c.index-ops-place.result.kind c.index-ops-place.result.item) c.loop-place.invariant.held
          ∙ c.in-Some.ensures.value;
    }

pub returns : goal.returns
returns g c = (λ t. reads_all _ _ _ _ c.loop-place.place-index (omega arith) c.loop-place.invariant.reads, λ all. refl)

pub loop-place-init : goal.loop-place-init
loop-place-init g c = record { reads = λ i o l at. absurd (omega (arith, l)); held = refl }

pub bounds-order-place-index : goal.bounds-order-place-index
bounds-order-place-index g c = c.loop-place-test.true

pub offset_bounds-ops-place : goal.offset_bounds-ops-place
offset_bounds-ops-place g c =
    let inside = entry_in c.args.ops.now c.args.order.now c.loop-place.place-index c.requires c.loop-place-test.true in
    omega (arith, inside)

pub bounds-ops-place : goal.bounds-ops-place
bounds-ops-place g c = entry_in c.args.ops.now c.args.order.now c.loop-place.place-index c.requires c.loop-place-test.true
