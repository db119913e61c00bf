-- The entry is no place, and those before it are.
use Rattle.std.proofs.Common.{◌≤◌, length, get_or, arith}
use Rattle.std.proofs.lemmas.Option.{slice_get-get_or}
use Rattle.history_explain.proofs.Fronts.{places_front}
use Rattle.history_core.proofs.Listed.{some_and_from}
use Rattle.history_explain.proofs.breaks.listing.no_place.Goals as goal

pub returns-then-place-ops-clause-some : goal.returns-then-place-ops-clause-some
returns-then-place-ops-clause-some g c = record {
  outside = some_and_from (λ p. length c.args.ops.now ≤ p) _ (get_or c.args.order.now c.loop-entry.entry 0)
      (slice_get-get_or c.args.order.now c.loop-entry.entry 0 (omega arith)) (omega arith);
  before = places_front c.args.ops.now c.args.order.now c.loop-entry.entry c.loop-entry.invariant;
}
