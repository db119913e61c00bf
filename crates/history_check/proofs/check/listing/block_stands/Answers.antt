-- A place that is met again stands twice; and after all entries a mark is the number of times that its place stands.
use Rattle.std.proofs.Common.{◌≡◌, ℕ, ◌+◌, ◌<◌, ◌≤◌, Bool, List, take, slice_get, length, Some, arith, refl, sym, subst, ap, ◌∙◌, inl, inr}
use Rattle.std.proofs.lemmas.Bool.{cases_lt}
use Rattle.std.proofs.lemmas.List.{take_all}
use Rattle.std.proofs.lemmas.Option.{slice_get_read}
use Rattle.history_core.specs.declared.history.Op.{Op}
use Rattle.history_core.specs.Orders.{times_of, EachStands, MayStand}
use Rattle.history_check.specs.inner.Marks.{times_marked}
use Rattle.history_check.proofs.Blocks.{marked_twice, block_step, block_all}
use Rattle.history_check.proofs.Entries.{marks_step}
use Rattle.history_check.proofs.check.listing.block_stands.Goals as goal

-- the counts over the whole order
all_times : (order : List ℕ) (base : ℕ) (seen : List Bool) (n : ℕ) → length order ≤ n →
    ((k : ℕ) → k < length seen → times_of (base + k) (take n order) ≡ times_marked seen k) → (k : ℕ) → k < length seen →
    times_of (base + k) order ≡ times_marked seen k
all_times order base seen n le counted k l = ap (times_of (base + k)) (sym (take_all n order le)) ∙ counted k l

up_to : {R : Type 0} (ops : List (Op R)) (order : List ℕ) (base n m : ℕ) → m ≤ n → EachStands ops order base (base + n) →
    EachStands ops order base (base + m)
up_to ops order base n m le each p o bp pm e = each p o bp (omega arith) e

pub returns-then-not-mark : goal.returns-then-not-mark
returns-then-not-mark g c =
    let again = c.mark.ensures.again c.if-not-mark.true in (
      λ t. cc,
      λ each. absurd (marked_twice c.args.ops.now c.args.order.now c.args.base c.loop-place.seen c.loop-place.place-index c.requires.places
          (omega arith) c.loop-place.invariant.counted again.0 again.1
          (up_to c.args.ops.now c.args.order.now c.args.base (length c.args.seen.now) (length c.loop-place.seen) (omega arith) each)),
    )

pub returns-then-not-may_stand : goal.returns-then-not-may_stand
returns-then-not-may_stand g c =
    let times = all_times c.args.order.now c.args.base c.loop-place.seen c.loop-place.place-index (omega arith)
    c.loop-place.invariant.counted c.loop-at.at (omega arith) in
    let there : slice_get c.args.ops.now (c.args.base + c.loop-at.at) ≡ Some c.index-ops-base.result =
    slice_get_read _ (length c.args.ops.now) _ _ refl (omega arith) c.index-ops-base.is in
    let P : ℕ → Type 0 = λ n. MayStand c.index-ops-base.result.ends c.index-ops-base.result.kind n in
    (λ t. cc, λ each. let yes = c.may_stand.ensures.1 (subst P times (each _ _ (omega arith) (omega arith) there)) in cc)

pub loop-at-preserved : goal.loop-at-preserved
loop-at-preserved g c =
    let times = all_times c.args.order.now c.args.base c.loop-place.seen c.loop-place.place-index (omega arith)
    c.loop-place.invariant.counted c.loop-at.at (omega arith) in
    let P : ℕ → Type 0 = λ n. MayStand c.index-ops-base.result.ends c.index-ops-base.result.kind n in
    block_step c.args.ops.now c.args.order.now c.args.base c.loop-at.at _ c.index-ops-base.is (omega arith)
    (subst P (sym times) (c.may_stand.ensures.0 c.if-not-may_stand.false)) c.loop-at.invariant

pub returns : goal.returns
returns g c = (
  λ t. block_all c.args.ops.now c.args.order.now c.args.base c.loop-at.at _ (elim (cases_lt c.loop-at.at (length c.args.seen.now)) [
    | inl
        lt ↦ inr (omega arith)
    | inr le ↦ inl (omega arith)
  ]) c.loop-at.invariant,
  λ each. refl,
)

pub fill-requires : goal.fill-requires
fill-requires g c = tt

pub bounds-order-place-index : goal.bounds-order-place-index
bounds-order-place-index g c = c.loop-place-test.true

pub mark-requires : goal.mark-requires
mark-requires g c = tt

pub loop-place-preserved : goal.loop-place-preserved
loop-place-preserved g c = record {
  long = c.mark.ensures.len ∙ c.loop-place.invariant.long;
  counted =
      marks_step c.args.order.now c.loop-place.seen c.mark.new.seen c.args.base c.loop-place.place-index c.loop-place-test.true
      c.mark.ensures.len (c.mark.ensures.first c.if-not-mark.false) c.loop-place.invariant.counted;
}

pub overflow_sub-ops : goal.overflow_sub-ops
overflow_sub-ops g c = c.requires.base_in

pub min-at-end-requires : goal.min-at-end-requires
min-at-end-requires g c = tt

pub loop-at-init : goal.loop-at-init
loop-at-init g c = λ p o bp pe at. absurd (omega (arith, bp, pe))

pub offset_bounds-ops-base : goal.offset_bounds-ops-base
offset_bounds-ops-base g c = omega (arith, c.loop-at-test.true, c.min-at-end.ensures, c.requires.base_in)

pub bounds-ops-base : goal.bounds-ops-base
bounds-ops-base g c = omega (arith, c.loop-at-test.true, c.min-at-end.ensures, c.requires.base_in)

pub bounds-seen-at : goal.bounds-seen-at
bounds-seen-at g c = omega (arith, c.loop-at-test.true, c.min-at-end.ensures)
