-- A group is found by its end, or ends no earlier than the moment.
use Rattle.std.proofs.Common.{◌≡◌, ◌≤◌, suc, length, get_or, arith, sym, ap, ◌∙◌}
use Rattle.std.proofs.lemmas.Option.{slice_get_within}
use Rattle.history_search.specs.declared.span.Span.{Span}
use Rattle.history_search.specs.inner.Groups.{ends_before, span_in, spans_in}
use Rattle.history_search.proofs.Loops.{found_before, none_before}
use Rattle.history_search.proofs.Marked.{no_marks, span_there, spans_long}
use Rattle.history_search.proofs.span.first_before.Goals as goal

pub loop-group-init : goal.loop-group-init
loop-group-init g c = λ w span l e. absurd (omega arith)

pub returns-in-Some-clause-some : goal.returns-in-Some-clause-some
returns-in-Some-clause-some g c =
    found_before (spans_in c.args.ops.now c.args.spans.now) c.loop-group.group c.args.moment c.in-Some.before
    (span_in c.args.ops.now (get_or c.args.spans.now c.loop-group.group no_marks)) c.loop-group.auto.group
    (span_there c.args.ops.now c.args.spans.now c.loop-group.group no_marks c.loop-group-test.true)
    (ap (λ (z : Span). ends_before z.ends c.args.moment) (sym c.span_in-span.ensures) ∙ sym c.ends_before.ensures ∙ c.in-Some.is)

pub loop-group-preserved : goal.loop-group-preserved
loop-group-preserved g c =
    none_before (spans_in c.args.ops.now c.args.spans.now) c.loop-group.group c.args.moment
    (span_in c.args.ops.now (get_or c.args.spans.now c.loop-group.group no_marks))
    (span_there c.args.ops.now c.args.spans.now c.loop-group.group no_marks c.loop-group-test.true)
    (ap (λ (z : Span). ends_before z.ends c.args.moment) (sym c.span_in-span.ensures) ∙ sym c.ends_before.ensures ∙ c.in-None.is)
    c.loop-group.invariant

pub returns-clause-none : goal.returns-clause-none
returns-clause-none g c = λ w span e.
    let l : length c.args.spans.now ≤ c.loop-group.group = c.loop-group-test.false in
    let long : length (spans_in c.args.ops.now c.args.spans.now) ≡ length c.args.spans.now = spans_long c.args.ops.now c.args.spans.now in
    c.loop-group.invariant w span (omega (arith, slice_get_within (spans_in c.args.ops.now c.args.spans.now) (suc w) span e)) e
