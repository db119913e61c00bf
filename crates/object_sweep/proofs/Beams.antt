-- A sweep with few configurations: what it keeps of an end, and the marks to which it goes back.
use Rattle.std.proofs.Common.{◌≡◌, ℕ, ◌+◌, ◌<◌, ◌≤◌, Bool, List, [], ◌∷◌, ◌++◌, length, slice_get}
use Rattle.std.proofs.Common.{get_or, take, Option, Some, refl, sym, ◌∙◌, ap, subst, arith, ◌⊎◌, inl, inr}
use Rattle.std.proofs.lemmas.Option.{same_Some, slice_get-get_or, slice_get_within}
use Rattle.object_core.specs.declared.operation.Operation.{Operation}
use Rattle.object_core.specs.Logs.{IsLinearizable}
use Rattle.object_sweep.specs.declared.beam.Passing.TheVariants.{Lost, On}
use Rattle.object_sweep.specs.declared.configuration.Configuration.{Configuration}
use Rattle.object_sweep.specs.declared.event.Event.{Event}
use Rattle.object_sweep.specs.declared.front.Front.{Front}
use Rattle.object_sweep.specs.declared.front.Mark.{Mark}
use Rattle.object_sweep.specs.declared.log_sweep.Verdict.TheVariants.{Unlawful}
use Rattle.object_sweep.specs.inner.Beams.{AreCopies, AreLeftOf, AreMarksBehind, IsFirstMark, IsMarkBehind, IsMarkOf, IsSameFront}
use Rattle.object_sweep.specs.inner.Beams.{MayHaveMarked}
use Rattle.object_sweep.specs.inner.Ends.{IsNarrowlyPassed}
use Rattle.object_sweep.specs.inner.Events.{AreEvents, IsFrontBehind}
use Rattle.object_sweep.specs.inner.Steps.{AnyCanFinish, IsCopyAt, IsMadeOf}
use Rattle.object_sweep.specs.Reached.{AreReachable, is_closed, IsReachable}
use Rattle.object_sweep.specs.Rests.{CanFinish, RunForwards}
use Rattle.object_sweep.specs.Verdicts.{IsSweepVerdict}
use Rattle.object_sweep.proofs.Fronts.{front_first, front_last, front_on, lost_verdict}
use Rattle.object_sweep.proofs.Lists.{get_front, get_push}

module _ {S : Type 0} where
  -- copies
  pub copied_none : (held : List (Configuration S)) → AreCopies 0 held []
  copied_none held = record { as_many = refl; each = λ i one copy e f. cc }

  pub copied_more : (n : ℕ) (held copies : List (Configuration S)) (copy : Configuration S) → AreCopies n held copies →
      IsCopyAt held n copy → AreCopies (n + 1) held (copies ++ copy ∷ [])
  copied_more n held copies copy yet more = record { as_many = many copies ∙ ap (λ z. z + 1) yet.as_many; each = each }
    where
      many : (list : List (Configuration S)) → length (list ++ copy ∷ []) ≡ length list + 1
      many [] = refl
      many (x ∷ rest) = let e = many rest in let goal : length ((x ∷ rest) ++ copy ∷ []) ≡ length (x ∷ rest) + 1 = omega (arith, e) in goal

      each : (i : ℕ) (one other : Configuration S) → slice_get held i ≡ Some one → slice_get (copies ++ copy ∷ []) i ≡ Some other →
          IsMadeOf other one.state one.placed.items
      each i one other e f = elim (get_push copies copy i other f) [
        | inl old ↦ yet.each i one other e old
        | inr new ↦
            let at : i ≡ n = new.0 ∙ yet.as_many in
            let same : more.0 ≡ one = same_Some more.0 one (sym more.1 ∙ (ap (slice_get held) (sym at) ∙ e)) in
            let P : Configuration S → Type 0 = λ z. IsMadeOf z one.state one.placed.items in
            let Q : Configuration S → Type 0 = λ z. IsMadeOf copy z.state z.placed.items in subst P new.1 (subst Q same more.2)
      ]

  -- the marks that are left
  pub left_none : (old : List (Mark S)) → AreLeftOf old old
  left_none old i mark e = e

  pub left_front : (old new : List (Mark S)) (last : Mark S) → old ≡ new ++ last ∷ [] → AreLeftOf old new
  left_front old new last e i mark at =
      let P : List (Mark S) → Type 0 = λ z. slice_get z i ≡ Some mark in subst P (sym e) (front new at)
    where
      front : (list : List (Mark S)) → slice_get list i ≡ Some mark → slice_get (list ++ last ∷ []) i ≡ Some mark
      front list at = get_front list (last ∷ []) i mark at

module _ {S W : Type 0} (after : S → W → Option S) (opening : S) (log : List (Operation W)) (events : List Event) where
  -- the same front
  pub front_copied : (done : List Event) (one other : Front S) → IsSameFront one other →
      IsFrontBehind one.whole after opening log done one.under_way.items one.configurations.items →
      IsFrontBehind other.whole after opening log done other.under_way.items other.configurations.items
  front_copied done one other same front =
      let P : Bool → Type 0 = λ z. IsFrontBehind z after opening log done other.under_way.items other.configurations.items in
      let Q : List ℕ → Type 0 = λ z. IsFrontBehind one.whole after opening log done z other.configurations.items in
      subst P (sym same.whole) (subst Q (sym same.under_way) (record {
        ended = front.ended;
        have_ended = front.have_ended;
        all_ended = front.all_ended;
        have_begun = front.have_begun;
        all_begun = front.all_begun;
        reached = reached;
        complete = λ w cut is keeps l. finished cut (front.complete w cut is keeps l);
        some = let m = same.copies.as_many in let l = front.some in omega (arith, m, l);
      }))
    where
      held : List (Configuration S)
      held = one.configurations.items

      copies : List (Configuration S)
      copies = other.configurations.items

      reached : AreReachable after opening log front.ended copies
      reached i copy at =
          let m = same.copies.as_many in
          let l : i < length copies = slice_get_within copies i copy at in
          let x : Configuration S = get_or held i copy in
          let old : slice_get held i ≡ Some x = slice_get-get_or held i copy (omega (arith, m, l)) in
          let made = same.copies.each i x copy old at in
          let P : S → Type 0 = λ z. IsReachable after opening log front.ended z copy.placed.items in
          let Q : List ℕ → Type 0 = λ z. IsReachable after opening log front.ended x.state z in
          subst P (sym made.0) (subst Q (sym made.1) (front.reached i x old))

      finished : (cut : List (Operation W)) → AnyCanFinish after cut front.ended held → AnyCanFinish after cut front.ended copies
      finished cut any =
          let m = same.copies.as_many in
          let l : any.0 < length held = slice_get_within held any.0 any.1 any.2 in
          let x : Configuration S = get_or copies any.0 any.1 in
          let new : slice_get copies any.0 ≡ Some x = slice_get-get_or copies any.0 any.1 (omega (arith, m, l)) in
          let made = same.copies.each any.0 any.1 x any.2 new in
          let P : S → Type 0 = λ z. CanFinish after cut (is_closed front.ended x.placed.items) z in
          let Q : List ℕ → Type 0 = λ z. CanFinish after cut (is_closed front.ended z) any.1.state in
          (any.0, x, new, subst P (sym made.0) (subst Q (sym made.1) any.3))

  -- what was marked
  pub marked_first : (mark : Mark S) → IsFirstMark opening mark → IsMarkBehind after opening log events mark
  marked_first mark first =
      let P : ℕ → Type 0 = λ z. IsFrontBehind mark.front.whole after opening log (take z events) mark.front.under_way.items
      mark.front.configurations.items in
      let Q : Bool → Type 0 = λ z. IsFrontBehind z after opening log (take 0 events) mark.front.under_way.items
      mark.front.configurations.items in
      let e : mark.done ≡ 0 = first.0 in (
        omega (arith, e),
        subst P (sym e) (subst Q (sym first.1) (front_first after opening log events mark.front.under_way.items
            mark.front.configurations.items first.2)),
      )

  pub marked_of : (marks : List (Mark S)) (mark : Mark S) → AreMarksBehind after opening log events marks → IsMarkOf opening marks mark →
      IsMarkBehind after opening log events mark
  marked_of marks mark are (inl first) = marked_first mark first
  marked_of marks mark are (inr at) = are at.0 mark at.1

  pub marked_left : (old new : List (Mark S)) → AreMarksBehind after opening log events old → AreLeftOf old new →
      AreMarksBehind after opening log events new
  marked_left old new are left i mark at = are i mark (left i mark at)

  pub marked_more : (at : Mark S) (old new : List (Mark S)) → IsMarkBehind after opening log events at →
      AreMarksBehind after opening log events old →
      MayHaveMarked at old new → AreMarksBehind after opening log events new
  marked_more at old new here are may i mark there = by_place (may i mark there)
    where
      by_place : (slice_get old i ≡ Some mark) ⊎ ((mark.done ≡ at.done) × IsSameFront at.front mark.front) →
          IsMarkBehind after opening log events mark
      by_place (inl e) = are i mark e
      by_place (inr same) =
          let P : ℕ → Type 0 = λ z. (z ≤ length events) × IsFrontBehind mark.front.whole after opening log (take z events)
          mark.front.under_way.items mark.front.configurations.items in
          subst P (sym same.0) (here.0, front_copied (take at.done events) at.front mark.front same.1 here.1)

  -- one more event
  module _ (forwards : RunForwards log) (are : AreEvents log events) (done : ℕ) (e : Event) (here : slice_get events done ≡ Some e)
      (old new : Front S) (yet : IsMarkBehind after opening log events (record { done = done; front = old })) where
    pub marked_on :
        IsNarrowlyPassed e.ends after log e.place old.whole old.under_way.items old.configurations.items new.whole new.under_way.items
        new.configurations.items On → IsMarkBehind after opening log events (record { done = done + 1; front = new })
    marked_on h =
        let l : done < length events = slice_get_within events done e here in (
          omega (arith, l),
          front_on after opening log forwards events are done e here old.whole old.under_way.items old.configurations.items
              yet.1 e.ends refl new.whole new.under_way.items new.configurations.items h,
        )

    pub lost_on : (budget : ℕ) →
        IsNarrowlyPassed e.ends after log e.place old.whole old.under_way.items old.configurations.items new.whole new.under_way.items
        new.configurations.items Lost → IsSweepVerdict after opening log budget (Unlawful e.place)
    lost_on budget h =
        lost_verdict after opening log forwards events are done e here old.whole old.under_way.items old.configurations.items yet.1
        h.0 h.1 h.2 h.3 budget

  pub marked_last : AreEvents log events → (mark : Mark S) → IsMarkBehind after opening log events mark → length events ≤ mark.done →
      IsLinearizable after opening log
  marked_last are mark here last =
      let n = here.0 in
      let same : mark.done ≡ length events = omega (arith, n, last) in
      let P : ℕ → Type 0 = λ z. IsFrontBehind mark.front.whole after opening log (take z events) mark.front.under_way.items
      mark.front.configurations.items in
      front_last after opening log events are mark.front.whole mark.front.under_way.items mark.front.configurations.items
      (subst P same here.1)
