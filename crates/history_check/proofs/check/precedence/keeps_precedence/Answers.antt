-- Some later entry precedes this one exactly where the least later end is before its beginning.
use Rattle.std.proofs.Common.{◌-◌, arith, refl}
use Rattle.history_core.proofs.Listed.{listed_read, keeps_from_none}
use Rattle.history_check.proofs.Entries.{entry_in, least_at_end, none_at_end}
use Rattle.history_check.proofs.Backwards.{least_step, none_step, broken_at}
use Rattle.history_check.proofs.check.precedence.keeps_precedence.Goals as goal

pub returns-then-is_before : goal.returns-then-is_before
returns-then-is_before g c =
    let at = listed_read c.args.ops.now c.args.order.now (c.loop-i.i - 1) c.index-ops-order.result c.requires
    (omega arith) c.index-ops-order.is in (
      λ t. cc,
      λ kept. absurd
          (broken_at _ _ c.loop-i.i _ _ _ (omega arith) at c.loop-i.invariant.least (c.is_before.ensures.0 c.if-is_before.true) kept),
    )

pub loop-i-preserved : goal.loop-i-preserved
loop-i-preserved g c =
    let at = listed_read c.args.ops.now c.args.order.now (c.loop-i.i - 1) c.index-ops-order.result c.requires
    (omega arith) c.index-ops-order.is in
    record {
      least = rw c.earlier-least.ensures (least_step _ _ c.loop-i.i _ _ _ (omega arith) at c.loop-i.invariant.least);
      none = none_step _ _ c.loop-i.i _ _ _ (omega arith) at c.loop-i.invariant.least (λ before.
          let t = c.is_before.ensures.1 before in
          cc) c.loop-i.invariant.none;
    }

pub returns : goal.returns
returns g c =
    (λ t. keeps_from_none _ _ (λ x y a b ix xy ax by pre. c.loop-i.invariant.none x y a b (omega arith) xy ax by pre), λ kept. refl)

pub loop-i-init : goal.loop-i-init
loop-i-init g c = record {
  least = least_at_end c.args.ops.now c.args.order.now;
  none = none_at_end c.args.ops.now c.args.order.now;
}

pub overflow_step-i : goal.overflow_step-i
overflow_step-i g c = c.loop-i-test.true

pub bounds-order-i : goal.bounds-order-i
bounds-order-i g c = omega (arith, c.loop-i-test.true, c.loop-i.auto.i)

pub offset_bounds-ops-order : goal.offset_bounds-ops-order
offset_bounds-ops-order g c =
    let inside = entry_in c.args.ops.now c.args.order.now (c.loop-i.i - 1) c.requires
    (omega (arith, c.loop-i-test.true, c.loop-i.auto.i)) in
    omega (arith, inside)

pub bounds-ops-order : goal.bounds-ops-order
bounds-ops-order g c =
    entry_in c.args.ops.now c.args.order.now (c.loop-i.i - 1) c.requires (omega (arith, c.loop-i-test.true, c.loop-i.auto.i))

pub is_before-requires : goal.is_before-requires
is_before-requires g c = tt

pub earlier-least-requires : goal.earlier-least-requires
earlier-least-requires g c = tt
