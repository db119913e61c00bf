-- The group of the opening is the first.
use Rattle.std.proofs.Common.{◌<◌, length, get_or, arith, refl, sym, ap, ◌∙◌, rules}
use Rattle.history_search.specs.declared.span.Span.{Span}
use Rattle.history_search.specs.inner.Groups.{span_in, spans_in}
use Rattle.history_search.proofs.Loops.{stale_none, stale_past}
use Rattle.history_search.proofs.Marked.{no_marks, span_there}
use Rattle.history_search.proofs.span.first_stale.Goals as goal

pub returns-in-None-clause-some : goal.returns-in-None-clause-some
returns-in-None-clause-some g c = search rules

pub returns-in-None-clause-none : goal.returns-in-None-clause-none
returns-in-None-clause-none g c =
    let l : 0 < length c.args.spans.now = let r = c.requires in omega arith in
    stale_none (spans_in c.args.ops.now c.args.spans.now) (span_in c.args.ops.now (get_or c.args.spans.now 0 no_marks))
    (span_there c.args.ops.now c.args.spans.now 0 no_marks l)
    (ap (λ (z : Span). z.begins) (sym c.span_in-opened.ensures) ∙ c.in-None.is)

pub returns-in-None-first_before-clause-some : goal.returns-in-None-first_before-clause-some
returns-in-None-first_before-clause-some g c = search rules

pub returns-in-None-first_before-clause-none : goal.returns-in-None-first_before-clause-none
returns-in-None-first_before-clause-none g c =
    let l : 0 < length c.args.spans.now = let r = c.requires in omega arith in
    stale_past (spans_in c.args.ops.now c.args.spans.now) (span_in c.args.ops.now (get_or c.args.spans.now 0 no_marks)) c.in-Some.m
    (span_there c.args.ops.now c.args.spans.now 0 no_marks l)
    (ap (λ (z : Span). z.begins) (sym c.span_in-opened.ensures) ∙ c.in-Some.is) c.in-None-first_before.ensures.none

pub returns-in-Some-first_before-clause-some : goal.returns-in-Some-first_before-clause-some
returns-in-Some-first_before-clause-some g c =
    let l : 0 < length c.args.spans.now = let r = c.requires in omega arith in (
      span_in c.args.ops.now (get_or c.args.spans.now 0 no_marks),
      c.in-Some.m,
      span_there c.args.ops.now c.args.spans.now 0 no_marks l,
      ap (λ (z : Span). z.begins) (sym c.span_in-opened.ensures) ∙ c.in-Some.is,
      c.in-Some-first_before.ensures.some,
      refl,
    )

pub returns-in-Some-first_before-clause-none : goal.returns-in-Some-first_before-clause-none
returns-in-Some-first_before-clause-none g c = search rules
