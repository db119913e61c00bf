-- One more entry keeps or breaks the rule by the count before it alone.
use Rattle.std.proofs.Common.{◌≡◌, ℕ, ◌<◌, List, slice_get, get_or, length, Some, arith, refl, sym, ap, ◌∙◌}
use Rattle.std.proofs.lemmas.Option.{slice_get-get_or, slice_get_read}
use Rattle.history_core.specs.declared.history.Op.{Op}
use Rattle.history_core.specs.Orders.{ListsPlaces}
use Rattle.history_check.specs.Ranges.{writes_after}
use Rattle.history_check.proofs.Entries.{entry_in}
use Rattle.history_check.proofs.Limits.{counts_start, counts_step, counts_all, counts_broken}
use Rattle.history_check.proofs.check.refusal.keeps_limit.Goals as goal

listed : {R : Type 0} (ops : List (Op R)) (order : List ℕ) (i : ℕ) (o : Op R) → ListsPlaces ops order → i < length order →
    o ≡ get_or ops (get_or order i 0) o → (slice_get order i ≡ Some (get_or order i 0)) × (slice_get ops (get_or order i 0) ≡ Some o)
listed ops order i o places l e =
    let at : slice_get order i ≡ Some (get_or order i 0) = slice_get-get_or order i 0 l in
    (at, slice_get_read ops (length ops) (get_or order i 0) o refl (places i _ at) e)

pub loop-place-init : goal.loop-place-init
loop-place-init g c = counts_start _ _ _ _ _

pub returns-in-None : goal.returns-in-None
returns-in-None g c =
    let h = listed c.args.ops.now c.args.order.now c.loop-place.place-index c.index-ops-place.result c.requires
    (omega arith) c.index-ops-place.is in (
      λ t. cc,
      λ all. absurd (c.in-None.ensures.broken (λ b. counts_broken c.args.first c.args.next c.args.limit _ _ _ _ c.loop-place.writes _ h.0
          h.1 c.loop-place.invariant all (sym c.is_within.ensures ∙ b))),
    )

pub loop-place-preserved : goal.loop-place-preserved
loop-place-preserved g c =
    let h = listed c.args.ops.now c.args.order.now c.loop-place.place-index c.index-ops-place.result c.requires
    (omega arith) c.index-ops-place.is in
    counts_step c.args.first c.args.next c.args.limit _ _ _ _ c.loop-place.writes _ _ h.0 h.1 c.loop-place.invariant
    (c.in-Some.ensures.counted ∙ ap (λ b. writes_after b c.index-ops-place.result.kind c.loop-place.writes) c.is_within.ensures)
    (λ b. c.in-Some.ensures.lawful (c.is_within.ensures ∙ b))

pub returns : goal.returns
returns g c = (λ t. counts_all _ _ _ _ _ c.loop-place.place-index _ (omega arith) c.loop-place.invariant, λ all. refl)

pub bounds-order-place-index : goal.bounds-order-place-index
bounds-order-place-index g c = c.loop-place-test.true

pub is_within-requires : goal.is_within-requires
is_within-requires g c = tt

pub offset_bounds-ops-place : goal.offset_bounds-ops-place
offset_bounds-ops-place g c =
    let inside = entry_in c.args.ops.now c.args.order.now c.loop-place.place-index c.requires c.loop-place-test.true in
    omega (arith, inside)

pub bounds-ops-place : goal.bounds-ops-place
bounds-ops-place g c = entry_in c.args.ops.now c.args.order.now c.loop-place.place-index c.requires c.loop-place-test.true
