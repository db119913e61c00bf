-- The order is that of the ranks, where no two groups cross.
use Rattle.std.proofs.Common.{ℕ, List, length, None, inl, sym, ap, subst, slice_get, ◌∙◌}
use Rattle.history_search.specs.declared.rank.Rank.{Rank}
use Rattle.history_search.specs.declared.span.Span.{Span}
use Rattle.history_search.specs.inner.Found.{AreStraight, crossing_of, HasEnough}
use Rattle.history_search.specs.inner.Groups.{spans_in}
use Rattle.history_search.specs.inner.Ranks.{NoneTurned, ranks_in}
use Rattle.history_search.proofs.Assembled.{crossing_from, if_none}
use Rattle.history_search.proofs.Placed.{same_places, straight_places}
use Rattle.history_search.proofs.group_search.order_groups.Goals as goal

pub returns-in-Some : goal.returns-in-Some
returns-in-Some g c =
    let spans : List Span = spans_in c.args.ops.now c.args.spans.now in
    let ranks : List ℕ → List Rank = ranks_in c.args.ops.now c.args.groups.now spans None in
    let h = c.in-Some.ensures.some in
    crossing_from c.args.ops.now c.args.groups.now spans c.args.limit (ranks c.in_ok-order.order.items)
    (ranks c.as_slice.result.now) c.crossing.result c.in-Some.field-0.earlier c.in-Some.field-0.later
    (ap ranks c.as_slice.ensures.value) c.in_ok-order.ensures h.0 h.1 h.2 h.3 h.4
    h.5 (c.crossing.ensures ∙ ap (λ z. crossing_of z c.span_at-other.result) c.span_at-one.ensures
    ∙ ap (λ z. crossing_of (slice_get spans c.in-Some.field-0.earlier.group) z) c.span_at-other.ensures)

pub order_late-requires-clause-straight : goal.order_late-requires-clause-straight
order_late-requires-clause-straight g c =
    let spans : List Span = spans_in c.args.ops.now c.args.spans.now in
    let P : List ℕ → Type 0 = λ z. AreStraight c.args.ops.now c.args.groups.now spans
    (ranks_in c.args.ops.now c.args.groups.now spans None z) in
    let Q : Type 0 = NoneTurned c.args.ops.now (ranks_in c.args.ops.now c.args.groups.now spans None c.as_slice.result.now)
    (length c.as_slice.result.now) in
    subst P (sym c.as_slice-in-Some-first_too_few.ensures.value) (straight_places c.args.ops.now c.args.groups.now spans
    c.in_ok-order.order.items c.as_slice.result.now c.as_slice.ensures.value c.in_ok-order.ensures
    (if_none c.first_turn.result Q c.first_turn.ensures.none c.in_default.not-Some))

pub returns-in-None : goal.returns-in-None
returns-in-None g c =
    let spans : List Span = spans_in c.args.ops.now c.args.spans.now in
    let Q : List ℕ → Type 0 = λ z. HasEnough c.args.ops.now z c.args.limit in
    let S : Type 0 = NoneTurned c.args.ops.now (ranks_in c.args.ops.now c.args.groups.now spans None c.as_slice.result.now)
    (length c.as_slice.result.now) in (
      inl (
        ranks_in c.args.ops.now c.args.groups.now spans None c.in_ok-order.order.items,
        straight_places c.args.ops.now c.args.groups.now spans c.in_ok-order.order.items c.as_slice.result.now
            c.as_slice.ensures.value c.in_ok-order.ensures
            (if_none c.first_turn.result S c.first_turn.ensures.none c.in_default.not-Some),
        c.new.ensures ∙ same_places c.args.ops.now c.args.groups.now spans None c.in_ok-order.order.items,
      ),
      subst Q (c.as_slice-2.ensures.value ∙ sym c.new.ensures) c.in-None.ensures.enough,
    )
