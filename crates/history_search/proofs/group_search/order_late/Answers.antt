-- The order has the late groups last.
use Rattle.std.proofs.Common.{ℕ, List, inr, refl, sym, ap, subst, ◌∙◌}
use Rattle.history_search.specs.declared.span.Span.{Span}
use Rattle.history_search.specs.inner.Found.{HasEnough, HasTooFew, refused_in}
use Rattle.history_search.specs.inner.Groups.{spans_in}
use Rattle.history_search.proofs.Assembled.{none_of}
use Rattle.history_search.proofs.Placed.{late_order}
use Rattle.history_search.proofs.group_search.order_late.Goals as goal

pub returns-in-None : goal.returns-in-None
returns-in-None g c =
    let spans : List Span = spans_in c.args.ops.now c.args.spans.now in
    let Q : List ℕ → Type 0 = λ z. HasEnough c.args.ops.now z c.args.limit in (
      inr (late_order c.args.ops.now c.args.groups.now spans c.late_end-late.result c.args.straight.now c.in_ok-order.order.items
          c.new.result c.requires.straight
          (ap refused_in (sym c.span_at.ensures) ∙ sym c.refused_in.ensures ∙ none_of c.refused_in.result c.in_default.not-Some)
          c.late_end-late.ensures c.in_ok-order.ensures c.new.ensures),
      subst Q (c.as_slice.ensures.value ∙ sym c.new.ensures) c.in-None.ensures.enough,
    )

pub returns-in-Some-first_too_few : goal.returns-in-Some-first_too_few
returns-in-Some-first_too_few g c =
    let spans : List Span = spans_in c.args.ops.now c.args.spans.now in
    let Q : List ℕ → Type 0 = λ z. HasTooFew c.args.ops.now z c.args.limit c.in-Some-first_too_few.refused in
    inr (
      c.in_ok-order.order.items,
      late_order c.args.ops.now c.args.groups.now spans c.late_end-late.result c.args.straight.now c.in_ok-order.order.items
          c.in_ok-order.order.items c.requires.straight
          (ap refused_in (sym c.span_at.ensures) ∙ sym c.refused_in.ensures ∙ none_of c.refused_in.result c.in_default.not-Some)
          c.late_end-late.ensures c.in_ok-order.ensures refl,
      subst Q c.as_slice.ensures.value c.in-Some-first_too_few.ensures.few,
    )
