-- One place more.
use Rattle.std.proofs.Common.{◌≡◌, ℕ, Option, None, Some, sym, subst, ◌∙◌}
use Rattle.std.proofs.lemmas.Option.{none-some, same_Some}
use Rattle.history_coherence.specs.inner.Keys.{IsPrevious, number_at}
use Rattle.history_coherence.proofs.Tables.{knows_more, knows_skip, number_read, previous_grown}
use Rattle.history_coherence.proofs.previous.previous_places.Goals as goal
use Rattle.history_coherence.proofs.previous.previous_places.Goals.{in-Some+in_ok-before-in-Some, in-None}

pub loop-place-preserved : goal.loop-place-preserved
loop-place-preserved c = elim c.match-numbers-place.branch [
  | in-Some+in_ok-before-in-Some w ↦
      let n : ℕ = c.loop-place.place in
      let y : ℕ = w.in-Some.number in
      let numbers = c.args.numbers.now in
      let at : number_at numbers n ≡ Some y = number_read numbers n c.loop-place-test.true ∙ w.in-Some.is in
      let known = c.loop-place.invariant.last in
      let P : ℕ → Option ℕ → Type 0 = λ z o. IsPrevious numbers n z o in
      let here : (x : ℕ) → number_at numbers n ≡ Some x → IsPrevious numbers n x w.in_ok-before-in-Some.before =
      λ x e. subst (λ z. P z w.in_ok-before-in-Some.before) (same_Some y x (sym at ∙ e))
      (subst (λ o. P y o) (sym w.in_ok-before-in-Some.ensures.old) (known y)) in
      record {
        last = λ x. rw w.last-is
            (knows_more numbers n y c.loop-place.last w.insert.new.self at w.in_ok-before-in-Some.ensures.updates known x);
        previous = rw (c.in_ok-push.ensures.items, w.before-is) (previous_grown numbers n c.loop-place.previous.items
            w.in_ok-before-in-Some.before here (λ r e. (y, at)) c.loop-place.invariant.previous);
      }
  | in-None w ↦
      let n : ℕ = c.loop-place.place in
      let numbers = c.args.numbers.now in
      let at : number_at numbers n ≡ None = number_read numbers n c.loop-place-test.true ∙ w.in-None.is in
      record {
        last = λ x. rw w.last-is (knows_skip numbers n c.loop-place.last at c.loop-place.invariant.last x);
        previous = rw (c.in_ok-push.ensures.items, w.before-is) (previous_grown numbers n c.loop-place.previous.items None
            (λ x e. absurd (none-some x (sym at ∙ e))) (λ r e. cc) c.loop-place.invariant.previous);
      }
]
