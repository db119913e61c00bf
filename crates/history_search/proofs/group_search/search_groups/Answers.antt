-- Each answer is of its rule.
use Rattle.std.proofs.Common.{◌≡◌, ◌+◌, List, length, ap, subst, sym, ◌∙◌, arith}
use Rattle.std.proofs.lemmas.List.{length-map}
use Rattle.std.proofs.lemmas.Result.{IfOk-weaker}
use Rattle.history_search.specs.declared.span.Marks.{Marks}
use Rattle.history_search.specs.declared.span.Span.{Span}
use Rattle.history_search.specs.inner.Found.{IsFound, IsGroupSearch, NoneEarlyIn}
use Rattle.history_search.specs.inner.Groups.{AreSpans, span_in, spans_in}
use Rattle.history_search.proofs.Assembled.{if_none, prepared_found}
use Rattle.history_search.proofs.group_search.search_groups.Goals as goal

pub returns : goal.returns
returns g c =
    let spans : List Marks → List Span = spans_in c.args.ops.now in
    IfOk-weaker c.order_groups.result (IsGroupSearch c.args.ops.now c.args.groups.now (spans c.as_slice-3.result.now) c.args.limit)
    (IsFound c.args.ops.now c.args.groups.now c.args.limit) (λ s h. prepared_found c.args.ops.now c.args.groups.now
    (spans c.in_ok-spans.spans.items) (spans c.as_slice.result.now) (spans c.as_slice-2.result.now) (spans c.as_slice-3.result.now)
    c.args.limit c.first_ungrouped.result c.first_early.result c.first_stale.result (ap spans c.as_slice.ensures.value)
    (ap spans c.as_slice-2.ensures.value) (ap spans c.as_slice-3.ensures.value)
    c.in_ok-spans.ensures c.first_ungrouped.ensures.none c.in_default.not-Some c.first_early.ensures.none
    c.in_default-first_early.not-Some c.first_stale.ensures.none c.in_default-first_stale.not-Some s h) c.order_groups.ensures

pub returns-in-Some-first_early : goal.returns-in-Some-first_early
returns-in-Some-first_early g c =
    let P : List Marks → Type 0 = λ z. AreSpans c.args.ops.now c.args.groups.now (length c.args.ops.now) (spans_in c.args.ops.now z) in (
      spans_in c.args.ops.now c.as_slice.result.now,
      if_none c.first_ungrouped.result _ c.first_ungrouped.ensures.none c.in_default.not-Some,
      subst P (sym c.as_slice.ensures.value) c.in_ok-spans.ensures,
      c.in-Some-first_early.ensures.some,
    )

pub returns-in-Some-first_stale : goal.returns-in-Some-first_stale
returns-in-Some-first_stale g c =
    let P : List Marks → Type 0 = λ z. AreSpans c.args.ops.now c.args.groups.now (length c.args.ops.now) (spans_in c.args.ops.now z) in
    let Q : List Marks → Type 0 = λ z. NoneEarlyIn c.args.ops.now (spans_in c.args.ops.now z) (length c.args.ops.now) in (
      spans_in c.args.ops.now c.as_slice-2.result.now,
      if_none c.first_ungrouped.result _ c.first_ungrouped.ensures.none c.in_default.not-Some,
      subst P (sym c.as_slice-2.ensures.value) c.in_ok-spans.ensures,
      subst Q (c.as_slice.ensures.value ∙ sym c.as_slice-2.ensures.value)
          (if_none c.first_early.result (Q c.as_slice.result.now) c.first_early.ensures.none c.in_default-first_early.not-Some),
      c.in-Some-first_stale.ensures.some,
    )

pub first_ungrouped-requires : goal.first_ungrouped-requires
first_ungrouped-requires g c = c.requires.long

pub returns-in-Some : goal.returns-in-Some
returns-in-Some g c = c.in-Some.ensures.some

pub span_groups-requires-clause-long : goal.span_groups-requires-clause-long
span_groups-requires-clause-long g c = c.requires.long

pub span_groups-requires-clause-within : goal.span_groups-requires-clause-within
span_groups-requires-clause-within g c = c.requires.within

pub first_early-requires : goal.first_early-requires
first_early-requires g c =
    let long : length (spans_in c.args.ops.now c.in_ok-spans.spans.items) ≡ length c.args.ops.now + 1 = c.in_ok-spans.ensures.long in
    ap length c.as_slice.ensures.value ∙ sym (length-map c.in_ok-spans.spans.items (span_in c.args.ops.now)) ∙ long

pub first_stale-requires : goal.first_stale-requires
first_stale-requires g c =
    let long : length (spans_in c.args.ops.now c.in_ok-spans.spans.items) ≡ length c.args.ops.now + 1 = c.in_ok-spans.ensures.long in
    let same : length c.as_slice-2.result.now ≡ length c.args.ops.now + 1 =
    ap length c.as_slice-2.ensures.value ∙ sym (length-map c.in_ok-spans.spans.items (span_in c.args.ops.now)) ∙ long in
    omega (arith, same)

pub order_groups-requires : goal.order_groups-requires
order_groups-requires g c = c.requires.long
