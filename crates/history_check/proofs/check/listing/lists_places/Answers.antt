-- An entry that is no place breaks the rule; and after all entries each is one.
use Rattle.std.proofs.Common.{ℕ, ◌<◌, get_or, length, arith, refl}
use Rattle.history_check.proofs.Entries.{entry_in, lists_all, one_more}
use Rattle.history_check.proofs.check.listing.lists_places.Goals as goal

pub loop-place-init : goal.loop-place-init
loop-place-init g c = λ k below. absurd (omega (arith, below))

pub bounds-order-place-index : goal.bounds-order-place-index
bounds-order-place-index g c = c.loop-place-test.true

pub returns-then-place-ops : goal.returns-then-place-ops
returns-then-place-ops g c = (
  λ t. cc,
  λ places.
      let inside = entry_in c.args.ops.now c.args.order.now c.loop-place.place-index places c.loop-place-test.true in
      absurd (omega (arith, inside, c.if-place-ops.true)),
)

pub loop-place-preserved : goal.loop-place-preserved
loop-place-preserved g c =
    let P : ℕ → Type 0 = λ k. get_or c.args.order.now k 0 < length c.args.ops.now in
    one_more P c.loop-place.place-index c.loop-place.invariant c.if-place-ops.false

pub returns : goal.returns
returns g c = (
  λ t. lists_all c.args.ops.now c.args.order.now c.loop-place.place-index c.loop-place-test.false c.loop-place.invariant,
  λ places. refl,
)
