-- One more operation joins the span of its group.
use Rattle.std.proofs.Common.{Option, ◌≡◌, ◌+◌, ◌<◌, ◌≤◌, ℕ, List, length, get_or, set, arith, None, Some, slice_get, refl, sym, subst, ap}
use Rattle.std.proofs.Common.{◌∙◌}
use Rattle.std.proofs.lemmas.Option.{slice_get-get_or, slice_get_read}
use Rattle.history_search.specs.declared.span.Marks.{Marks}
use Rattle.history_search.specs.declared.span.Span.{Span}
use Rattle.history_search.specs.inner.Groups.{AreSpans, span_in, spans_in}
use Rattle.history_search.proofs.Assembled.{none_of}
use Rattle.history_search.proofs.Loops.{spans_more, spans_skip}
use Rattle.history_search.proofs.Marked.{no_marks, span_there, spans_long, spans_set}
use Rattle.history_search.proofs.span.join_ops.Goals as goal
use Rattle.history_search.proofs.span.join_ops.Goals.{in-Some, in_default}

-- the group of an operation is one of the spans
spanned : (groups : List (Option ℕ)) (n group k m : ℕ) → n < k → length groups ≡ k → get_or groups n None ≡ Some group →
    ((p g : ℕ) → slice_get groups p ≡ Some (Some g) → g ≤ k) → m ≡ k + 1 → group < m
spanned groups n group k m l long is within longer =
    let lg : n < length groups = omega arith in
    let h : group ≤ k = within n group (slice_get-get_or groups n None lg ∙ ap Some is) in
    omega arith

pub loop-place-init : goal.loop-place-init
loop-place-init g c = c.requires.empty

pub bounds : goal.bounds
bounds g c = subst (λ (z : ℕ). c.loop-place.place < z) (sym c.requires.long) c.loop-place-test.true

pub bounds-groups-place : goal.bounds-groups-place
bounds-groups-place g c = subst (λ (z : ℕ). c.loop-place.place < z) (sym c.requires.long) c.loop-place-test.true

pub offset_bounds-spans-group : goal.offset_bounds-spans-group
offset_bounds-spans-group g c =
    let inside : c.in-Some.group < length c.loop-place.spans =
    spanned c.args.groups.now c.loop-place.place c.in-Some.group (length c.args.ops.now) (length c.loop-place.spans)
    c.loop-place-test.true c.requires.long c.in-Some.is c.requires.within
    (sym (spans_long c.args.ops.now c.loop-place.spans) ∙ c.loop-place.invariant.long) in
    omega (arith, inside)

pub slice_copy_out-joined : goal.slice_copy_out-joined
slice_copy_out-joined g c =
    spanned c.args.groups.now c.loop-place.place c.in-Some.group (length c.args.ops.now) (length c.loop-place.spans)
    c.loop-place-test.true c.requires.long c.in-Some.is c.requires.within
    (sym (spans_long c.args.ops.now c.loop-place.spans) ∙ c.loop-place.invariant.long)

pub bounds-ops-place : goal.bounds-ops-place
bounds-ops-place g c = c.loop-place-test.true

pub offset_bounds-spans-group-in-Some : goal.offset_bounds-spans-group-in-Some
offset_bounds-spans-group-in-Some g c =
    let inside : c.in-Some.group < length c.loop-place.spans =
    spanned c.args.groups.now c.loop-place.place c.in-Some.group (length c.args.ops.now) (length c.loop-place.spans)
    c.loop-place-test.true c.requires.long c.in-Some.is c.requires.within
    (sym (spans_long c.args.ops.now c.loop-place.spans) ∙ c.loop-place.invariant.long) in
    omega (arith, inside)

pub bounds-spans-group : goal.bounds-spans-group
bounds-spans-group g c =
    spanned c.args.groups.now c.loop-place.place c.in-Some.group (length c.args.ops.now) (length c.loop-place.spans)
    c.loop-place-test.true c.requires.long c.in-Some.is c.requires.within
    (sym (spans_long c.args.ops.now c.loop-place.spans) ∙ c.loop-place.invariant.long)

pub loop-place-preserved : goal.loop-place-preserved
loop-place-preserved g c =
    let n : ℕ = c.loop-place.place in
    let l : n < length c.args.ops.now = c.loop-place-test.true in
    let lg : n < length c.args.groups.now = let e = c.requires.long in omega arith in
    let at : slice_get c.args.groups.now n ≡ Some (get_or c.args.groups.now n None) = slice_get-get_or c.args.groups.now n None lg in
    let P : List Span → Type 0 = λ z. AreSpans c.args.ops.now c.args.groups.now (n + 1) z in
    elim c.match-groups-place.branch [
      | in-Some w ↦
          let group : ℕ = w.in-Some.group in
          let here : slice_get c.args.groups.now n ≡ Some (Some group) = at ∙ ap Some w.in-Some.is in
          let long : length c.loop-place.spans ≡ length c.args.ops.now + 1 =
          sym (spans_long c.args.ops.now c.loop-place.spans) ∙ c.loop-place.invariant.long in
          let ls : group < length c.loop-place.spans = let h = c.requires.within n group here in
          omega (arith, long) in
          let o = w.index-ops-place.result in
          let at_o : slice_get c.args.ops.now n ≡ Some o =
          slice_get_read c.args.ops.now (length c.args.ops.now) n o refl l w.index-ops-place.is in
          let marks : Marks = get_or c.loop-place.spans group no_marks in
          let Q : Marks → Type 0 = λ z. P (spans_in c.args.ops.now (set c.loop-place.spans group z)) in
          subst (λ (z : List Marks). P (spans_in c.args.ops.now z)) (sym w.spans-is) (subst Q (sym w.joined-marks.ensures)
          (subst P (sym (spans_set c.args.ops.now o n at_o c.loop-place.spans group no_marks))
          (spans_more c.args.ops.now c.args.groups.now n group o (span_in c.args.ops.now marks)
          (spans_in c.args.ops.now c.loop-place.spans) (at_o, here)
          (span_there c.args.ops.now c.loop-place.spans group no_marks ls) c.loop-place.invariant)))
      | in_default w ↦ subst (λ (z : List Marks). P (spans_in c.args.ops.now z)) (sym w.spans-is)
          (spans_skip c.args.ops.now c.args.groups.now n (spans_in c.args.ops.now c.loop-place.spans)
          (at ∙ ap Some (none_of (get_or c.args.groups.now n None) w.in_default.not-Some)) c.loop-place.invariant)
    ]

pub returns : goal.returns
returns g c =
    let done : length c.args.ops.now ≤ c.loop-place.place = c.loop-place-test.false in
    let same : c.loop-place.place ≡ length c.args.ops.now = let l = c.loop-place.auto.place-end in omega arith in
    let P : ℕ → Type 0 = λ z. AreSpans c.args.ops.now c.args.groups.now z (spans_in c.args.ops.now c.loop-place.spans) in
    subst P same c.loop-place.invariant
