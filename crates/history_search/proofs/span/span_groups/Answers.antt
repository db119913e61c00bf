-- The spans begin empty, and what the vector holds at the end is the slice that was joined.
use Rattle.std.proofs.Common.{rules, ◌≡◌, ◌++◌, ◌+◌, ◌-◌, ◌∙◌, ℕ, zero, suc, List, [], length, take, replicate, arith, ap, refl, subst, sym}
use Rattle.std.proofs.lemmas.List.{take-append-le, take_all}
use Rattle.history_search.specs.declared.span.Marks.{Marks}
use Rattle.history_search.specs.inner.Groups.{AreSpans, empty_marks, spans_in}
use Rattle.history_search.proofs.Loops.{spans_start}
use Rattle.history_search.proofs.Marked.{spans_empty}
use Rattle.history_search.proofs.span.span_groups.Goals as goal

-- what a vector holds whose slice was changed as a whole
whole : (n : ℕ) (old before new rest : List Marks) → n ≡ length old → before ≡ old → length new ≡ length before → take n (new ++ rest) ≡ new
whole n old before new rest count same lengths =
    let long : n ≡ length new = count ∙ ap length (sym same) ∙ sym lengths in
    take-append-le n new rest (omega (arith, long)) ∙ take_all n new (omega (arith, long))

none_taken : (n : ℕ) → take {A = Marks} n [] ≡ []
none_taken zero = refl
none_taken (suc n) = refl

-- an empty vector that is made longer
resized : (n k : ℕ) (old new : List Marks) → old ≡ [] → k ≡ 0 → new ≡ take n old ++ replicate (n - k) empty_marks →
    new ≡ replicate n empty_marks
resized n k old new none zero_long is =
    let more : n - k ≡ n = omega arith in
    is ∙ ap (λ (z : List Marks). take n z ++ replicate (n - k) empty_marks) none
    ∙ ap (λ (z : List Marks). z ++ replicate (n - k) empty_marks) (none_taken n) ∙ ap (λ (z : ℕ). replicate z empty_marks) more

pub join_ops-requires-clause-empty : goal.join_ops-requires-clause-empty
join_ops-requires-clause-empty g c =
    spans_start c.args.ops.now c.args.groups.now (spans_in c.args.ops.now c.as_mut_slice.result.now)
    (ap (spans_in c.args.ops.now) (c.as_mut_slice.ensures.value ∙ resized (length c.args.ops.now + 1) _ c.new-spans.result.items
    c.resize.new.self.items c.new-spans.ensures.items c.new-spans.ensures.len c.in_ok-resize.ensures.items)
    ∙ spans_empty c.args.ops.now (length c.args.ops.now + 1) c.if-ops.false)

pub returns : goal.returns
returns g c =
    let count : c.resize.new.self.len ≡ length c.resize.new.self.items = search rules in
    let P : List Marks → Type 0 = λ z. AreSpans c.args.ops.now c.args.groups.now (length c.args.ops.now) (spans_in c.args.ops.now z) in
    subst P (sym (whole c.resize.new.self.len c.resize.new.self.items c.as_mut_slice.result.now c.join_ops.new.spans _ count
    c.as_mut_slice.ensures.value c.join_ops.auto.spans)) c.join_ops.ensures
