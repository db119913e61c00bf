-- One more operation, which has no fault or the first one.
use Rattle.std.proofs.Common.{◌≡◌, ℕ, List, length, map, Option, None, Some, ap, sym, subst, ◌∙◌}
use Rattle.history_coherence.specs.inner.Keys.{ArePrevious, written_record}
use Rattle.history_coherence.specs.inner.Writes.{fault_at}
use Rattle.history_coherence.proofs.Edges.{none_of}
use Rattle.history_coherence.proofs.Rewritten.{fault_is, once_all, once_more}
use Rattle.history_coherence.proofs.once.first_fault.Goals as goal

pub returns-in-Some-clause-fault : goal.returns-in-Some-clause-fault
returns-in-Some-clause-fault c =
    let log = c.args.log.now in
    let n : ℕ = c.loop-place.place in
    let previous = c.in_ok-previous.previous.items in
    let P : List (Option ℕ) → Type 0 = λ z. ArePrevious z (length z) previous in
    let before = subst P (c.as_slice.ensures.value ∙ c.in_ok-records.ensures) c.in_ok-previous.ensures in
    let records = c.as_slice-in-loop-place.ensures.value ∙ c.in_ok-records.ensures in
    let same : fault_at (map written_record log) previous n ≡ Some c.in-Some.fault =
    sym (c.in-Some.ensures ∙ ap (λ (z : List (Option ℕ)). fault_at z c.as_slice-in-loop-place-2.result.now n) records
    ∙ ap (λ (z : List (Option ℕ)). fault_at (map written_record log) z n) c.as_slice-in-loop-place-2.ensures.value) in
    fault_is log previous before n c.in-Some.fault same c.loop-place.invariant

pub loop-place-preserved : goal.loop-place-preserved
loop-place-preserved c =
    let log = c.args.log.now in
    let n : ℕ = c.loop-place.place in
    let previous = c.in_ok-previous.previous.items in
    let P : List (Option ℕ) → Type 0 = λ z. ArePrevious z (length z) previous in
    let before = subst P (c.as_slice.ensures.value ∙ c.in_ok-records.ensures) c.in_ok-previous.ensures in
    let records = c.as_slice-in-loop-place.ensures.value ∙ c.in_ok-records.ensures in
    let none = none_of c.fault_at.result c.in_default.not-Some in
    let same : fault_at (map written_record log) previous n ≡ None =
    sym (c.fault_at.ensures ∙ ap (λ (z : List (Option ℕ)). fault_at z c.as_slice-in-loop-place-2.result.now n) records
    ∙ ap (λ (z : List (Option ℕ)). fault_at (map written_record log) z n) c.as_slice-in-loop-place-2.ensures.value) ∙ none in
    once_more log previous before n same c.loop-place.invariant

pub returns-clause-once : goal.returns-clause-once
returns-clause-once c = once_all c.args.log.now c.loop-place.place c.loop-place-test.false c.loop-place.invariant
