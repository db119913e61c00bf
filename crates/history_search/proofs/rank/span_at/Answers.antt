-- What was found is what stands at the place.
use Rattle.std.proofs.Common.{◌≡◌, ◌∙◌, Some, None, slice_get, length, refl, ap, sym}
use Rattle.std.proofs.lemmas.Option.{slice_get-map, slice_get_read, slice_get_past}
use Rattle.std.specs.Option.{option_map}
use Rattle.history_search.specs.declared.span.Marks.{Marks}
use Rattle.history_search.specs.declared.span.Span.{Span}
use Rattle.history_search.specs.inner.Groups.{span_in}
use Rattle.history_search.proofs.rank.span_at.Goals as goal

pub returns-in-Some : goal.returns-in-Some
returns-in-Some g c =
    let span : Marks → Span = span_in c.args.ops.now in
    let t = c.in-Some.ensures.lookup in
    let at : slice_get c.args.spans.now c.args.group ≡ Some c.in-Some.marks.now =
    slice_get_read c.args.spans.now (length c.args.spans.now) c.args.group c.in-Some.marks.now refl t.3.0 t.1 in
    ap Some c.span_in.ensures ∙ sym (slice_get-map span c.args.spans.now c.args.group ∙ ap (option_map span) at)

pub returns-in-None : goal.returns-in-None
returns-in-None g c =
    let span : Marks → Span = span_in c.args.ops.now in
    let at : slice_get c.args.spans.now c.args.group ≡ None = slice_get_past c.args.spans.now c.args.group c.in-None.ensures.lookup.3 in
    sym (slice_get-map span c.args.spans.now c.args.group ∙ ap (option_map span) at)
