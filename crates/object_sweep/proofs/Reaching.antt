-- An end in a narrow sweep: what is added is reached, though not all that is reached may be added.
use Rattle.std.proofs.Common.{◌≡◌, ℕ, Bool, true, false, List, ◌∷◌, length, slice_get, Option, Some, refl, sym, ◌∙◌, ap, subst}
use Rattle.std.proofs.lemmas.List.{take_all}
use Rattle.object_core.specs.declared.operation.Operation.{Operation}
use Rattle.object_sweep.specs.declared.configuration.Configuration.{Configuration}
use Rattle.object_sweep.specs.inner.Steps.{AddsReached, AnyCanFinish, AreStarted, IsClosed, IsCopyAt, IsLeftOut, IsNarrowed}
use Rattle.object_sweep.specs.inner.Steps.{IsPassed, IsTried, KeepsSound, may_be_left_out, step_from, sure_at}
use Rattle.object_sweep.specs.Reached.{is_in}
use Rattle.object_sweep.proofs.Adding.{left_sound, passed, reached_of, tried_sound}
use Rattle.object_sweep.proofs.Fronts.{taken}
use Rattle.object_sweep.proofs.Lists.{at_is_in}

never : false ≡ true → ⊥
never e = cc

module _ {S W : Type 0} (after : S → W → Option S) (log : List (Operation W)) where
  -- one configuration
  module _ (sure : ℕ → Bool) (under_way : List ℕ) (ending : ℕ) (s : S) (placed : List ℕ) where
    pub adds_left : (waiting kept waiting' kept' : List (Configuration S)) →
        IsLeftOut sure (may_be_left_out log ending) s placed waiting kept waiting' kept' →
        AddsReached after log under_way ending s placed waiting kept waiting' kept'
    adds_left waiting kept waiting' kept' h opening ended end next way r lack =
        left_sound sure after opening log ended ending end next s placed r lack waiting kept waiting' kept'
        (may_be_left_out log ending) refl h

    pub adds_tried : (n q : ℕ) → slice_get under_way n ≡ Some q → (waiting kept waiting' kept' : List (Configuration S)) →
        IsTried sure (step_from after log s placed q) ending placed q waiting kept waiting' kept' →
        AddsReached after log under_way ending s placed waiting kept waiting' kept'
    adds_tried n q at waiting kept waiting' kept' h opening ended end next way r lack =
        tried_sound sure after opening log ended under_way ending end next way s placed n q at r lack waiting kept waiting' kept'
        (step_from after log s placed q) refl h

    -- one that is under way
    pub adds_under_way : (q : ℕ) → is_in q under_way ≡ true → (waiting kept waiting' kept' : List (Configuration S)) →
        IsTried sure (step_from after log s placed q) ending placed q waiting kept waiting' kept' →
        AddsReached after log under_way ending s placed waiting kept waiting' kept'
    adds_under_way q here waiting kept waiting' kept' h =
        let at = at_is_in under_way q here in adds_tried at.0 q at.1 waiting kept waiting' kept' h

  pub adds_more : (under_way : List ℕ) (ending : ℕ) (s : S) (placed : List ℕ)
      (waiting kept waiting' kept' waiting'' kept'' : List (Configuration S)) →
      AddsReached after log under_way ending s placed waiting kept waiting' kept' →
      AddsReached after log under_way ending s placed waiting' kept' waiting'' kept'' →
      AddsReached after log under_way ending s placed waiting kept waiting'' kept''
  adds_more under_way ending s placed waiting kept waiting' kept' waiting'' kept'' h more opening ended end next way r lack yet =
      more opening ended end next way r lack (h opening ended end next way r lack yet)

  -- one of those that wait, copied
  pub sound_more : (under_way : List ℕ) (ending n : ℕ) (from : Configuration S)
      (waiting kept waiting' kept' waiting'' kept'' : List (Configuration S)) →
      KeepsSound after log under_way ending waiting kept waiting' kept' → IsCopyAt waiting' n from →
      AddsReached after log under_way ending from.state from.placed.items waiting' kept' waiting'' kept'' →
      KeepsSound after log under_way ending waiting kept waiting'' kept''
  sound_more under_way ending n from waiting kept waiting' kept' waiting'' kept'' h copy more opening ended end next way yet =
      let now = h opening ended end next way yet in
      more opening ended end next way (reached_of (sure_at log) after opening log ended from copy.0.state copy.0.placed.items copy.2
      (now.reached_waiting n copy.0 copy.1)) (ap (is_in ending) copy.2.1 ∙ now.lacking n copy.0 copy.1) now

  -- behind the end
  pub passed_wanted : (under_way : List ℕ) (ending : ℕ) (configurations first first' waiting kept : List (Configuration S)) →
      AreStarted (sure_at log) after log ending (length configurations) configurations first first' →
      KeepsSound after log under_way ending first first' waiting kept → IsPassed false after log under_way ending configurations kept
  passed_wanted under_way ending configurations first first' waiting kept started sound = record {
    reached = λ opening ended end next way reached.
        (sound opening ended end next way (started.sound opening ended end next reached)).reached_kept;
    complete = λ e. absurd (never e);
  }

  pub passed_open : (under_way : List ℕ) (ending most : ℕ) (configurations first first' waiting kept : List (Configuration S)) →
      AreStarted (sure_at log) after log ending (length configurations) configurations first first' → (b : Bool) →
      IsClosed (sure_at log) after log under_way ending most first first' waiting kept b →
      IsPassed b after log under_way ending configurations kept
  passed_open under_way ending most configurations first first' waiting kept started true closed =
      passed after log under_way ending configurations first first' waiting kept started closed
  passed_open under_way ending most configurations first first' waiting kept started false closed =
      passed_wanted under_way ending configurations first first' waiting kept started closed.1.sound

  -- the first so many
  pub passed_few : (under_way : List ℕ) (ending width : ℕ) (configurations all kept : List (Configuration S)) (w v : Bool) →
      IsPassed w after log under_way ending configurations all → IsNarrowed width all kept w v →
      IsPassed v after log under_way ending configurations kept
  passed_few under_way ending width configurations all kept w v h few =
      let P : List (Configuration S) → Type 0 = λ z. IsPassed v after log under_way ending configurations z in
      subst P (sym few.0) (record {
        reached = λ opening ended end next way reached i one at.
            h.reached opening ended end next way reached i one (taken all width i one at).1;
        complete = λ e opening ended end forwards next way reached cut is ends any.
            let Q : List (Configuration S) → Type 0 = λ z. AnyCanFinish after cut (ending ∷ ended) z in
            let f = few.1 e in
            subst Q (sym (take_all width all f.1)) (h.complete f.0 opening ended end forwards next way reached cut is ends any);
      })
