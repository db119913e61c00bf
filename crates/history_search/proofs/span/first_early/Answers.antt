-- The span of a write's group has the number of its place and one.
use Rattle.std.proofs.Common.{◌<◌, ◌≤◌, ◌+◌, ℕ, length, get_or, arith, refl, sym, ap, ◌∙◌, rules}
use Rattle.std.proofs.lemmas.Option.{slice_get-get_or}
use Rattle.history_search.specs.declared.span.Span.{Span}
use Rattle.history_search.specs.inner.Groups.{ends_before, span_in, spans_in}
use Rattle.history_search.proofs.Loops.{early_found, early_more}
use Rattle.history_search.proofs.Marked.{no_marks, span_there}
use Rattle.history_search.proofs.span.first_early.Goals as goal

pub returns-in-Some-clause-some : goal.returns-in-Some-clause-some
returns-in-Some-clause-some g c =
    let n : ℕ = c.loop-write.write in
    let l0 : n < length c.args.ops.now = c.loop-write-test.true in
    let o = get_or c.args.ops.now n c.index-ops-write.result in
    let l : n + 1 < length c.args.spans.now = let r = c.requires in omega arith in
    let span : Span = span_in c.args.ops.now (get_or c.args.spans.now (n + 1) no_marks) in
    early_found c.args.ops.now (spans_in c.args.ops.now c.args.spans.now) n (n + 1) c.in-Some.read o span refl
    (slice_get-get_or c.args.ops.now n c.index-ops-write.result l0) (span_there c.args.ops.now c.args.spans.now (n + 1) no_marks l)
    (ap (λ (z : Span). ends_before z.ends o.starts) (sym c.span_in-span.ensures) ∙ sym c.ends_before.ensures ∙ c.in-Some.is)

pub returns-in-Some-clause-none : goal.returns-in-Some-clause-none
returns-in-Some-clause-none g c = search rules

pub loop-write-preserved : goal.loop-write-preserved
loop-write-preserved g c =
    let n : ℕ = c.loop-write.write in
    let l0 : n < length c.args.ops.now = c.loop-write-test.true in
    let o = get_or c.args.ops.now n c.index-ops-write.result in
    let l : n + 1 < length c.args.spans.now = let r = c.requires in omega arith in
    let span : Span = span_in c.args.ops.now (get_or c.args.spans.now (n + 1) no_marks) in
    early_more c.args.ops.now (spans_in c.args.ops.now c.args.spans.now) n (n + 1) o span refl
    (slice_get-get_or c.args.ops.now n c.index-ops-write.result l0) (span_there c.args.ops.now c.args.spans.now (n + 1) no_marks l)
    (ap (λ (z : Span). ends_before z.ends o.starts) (sym c.span_in-span.ensures) ∙ sym c.ends_before.ensures ∙ c.in-None.is)
    c.loop-write.invariant

pub returns-clause-some : goal.returns-clause-some
returns-clause-some g c = search rules

pub returns-clause-none : goal.returns-clause-none
returns-clause-none g c = λ w a span l e f.
    let done : length c.args.ops.now ≤ c.loop-write.write = c.loop-write-test.false in
    c.loop-write.invariant w a span (omega arith) e f
