-- What the end of an operation leaves. Only private functions cite this.
use Rattle.std.specs.Prelude.{◌≡◌, ℕ, ◌<◌, Bool, true, false, List, [], ◌∷◌, ◌++◌, ◌&&◌, length, Option, None, Some}
use Rattle.std.specs.Prelude.{◌⊎◌}
use Rattle.object_core.specs.declared.operation.Operation.{Operation}
use Rattle.object_sweep.specs.declared.beam.Passing.{Passing}
use Rattle.object_sweep.specs.declared.beam.Passing.TheVariants.{Lost, Nothing, On}
use Rattle.object_sweep.specs.declared.configuration.Configuration.{Configuration}
use Rattle.object_sweep.specs.declared.log_sweep.Verdict.{Verdict}
use Rattle.object_sweep.specs.declared.log_sweep.Verdict.TheVariants.{Lawful, Unlawful, TooMany}
use Rattle.object_sweep.specs.inner.Steps.{AreUnderWay, IsPassed}
use Rattle.object_sweep.specs.Reached.{AreReachable, AreTooMany, is_in, IsNextEnd, without}

-- a beginning, by what it leaves
abbrev pub IsBeginPassed : {S : Type 0} → ℕ → List ℕ → List (Configuration S) → List ℕ → List (Configuration S) →
    Option Verdict → Type 0
IsBeginPassed place under_way held under_way' held' None = (under_way' ≡ under_way ++ place ∷ []) × (held' ≡ held)
IsBeginPassed place under_way held under_way' held' (Some verdict) = ⊥

module _ {S W : Type 0} where
  -- more configurations than the budget, whatever has ended before
  abbrev pub AreAlwaysTooMany : (S → W → Option S) → List (Operation W) → List ℕ → ℕ → List (Configuration S) → ℕ →
      Type 0
  AreAlwaysTooMany after log under_way ending configurations budget = (opening : S) (ended : List ℕ) (end : ℕ) →
      IsNextEnd log ended ending end → AreUnderWay log under_way ended end →
      AreReachable after opening log ended configurations →
      AreTooMany after opening log budget ending

  -- an event is passed: a beginning, or an end, which came before or behind which some configurations are kept. `whole`
  -- says whether none was left out so far
  abbrev pub IsOn : Bool → (S → W → Option S) → List (Operation W) → ℕ → Bool → List ℕ → List (Configuration S) →
      Bool → List ℕ → List (Configuration S) → Type 0
  IsOn false after log place whole under_way held whole' under_way' held' =
      (whole' ≡ whole) × (under_way' ≡ under_way ++ place ∷ []) × (held' ≡ held)
  IsOn true after log place whole under_way held whole' under_way' held' =
      ((is_in place under_way ≡ false) × (whole' ≡ whole) × (under_way' ≡ under_way) × (held' ≡ held)) ⊎
      ((w : Bool) × (is_in place under_way ≡ true) × (whole' ≡ (whole && w)) × (under_way' ≡ without place under_way)
      × IsPassed w after log under_way place held held' × (0 < length held'))

  -- one event, with few configurations: it is passed, or the log is lost there, or nothing is known
  abbrev pub IsNarrowlyPassed : Bool → (S → W → Option S) → List (Operation W) → ℕ → Bool → List ℕ →
      List (Configuration S) → Bool → List ℕ → List (Configuration S) → Passing → Type 0
  IsNarrowlyPassed ends after log place whole under_way held whole' under_way' held' On =
      IsOn ends after log place whole under_way held whole' under_way' held'
  IsNarrowlyPassed ends after log place whole under_way held whole' under_way' held' Lost = (ends ≡ true)
      × (whole ≡ true) × (is_in place under_way ≡ true) × IsPassed true after log under_way place held []
  IsNarrowlyPassed ends after log place whole under_way held whole' under_way' held' Nothing = Unit

  -- it had ended before, or the configurations behind its end are kept; or that gives a verdict
  abbrev pub IsEndPassed : (S → W → Option S) → List (Operation W) → ℕ → ℕ → List ℕ → List (Configuration S) → List ℕ →
      List (Configuration S) → Option Verdict → Type 0
  IsEndPassed after log budget place under_way held under_way' held' None =
      ((is_in place under_way ≡ false) × (under_way' ≡ under_way) × (held' ≡ held)) ⊎
      ((is_in place under_way ≡ true) × (under_way' ≡ without place under_way)
      × IsPassed true after log under_way place held held' ×
      (0 < length held'))
  IsEndPassed after log budget place under_way held under_way' held' (Some Lawful) = ⊥
  IsEndPassed after log budget place under_way held under_way' held' (Some (Unlawful p)) =
      (is_in place under_way ≡ true) × (p ≡ place) × IsPassed true after log under_way place held []
  IsEndPassed after log budget place under_way held under_way' held' (Some (TooMany p)) =
      (is_in place under_way ≡ true) × (p ≡ place) × AreAlwaysTooMany after log under_way place held budget

  -- an end, or a beginning
  abbrev pub IsEventPassed : Bool → (S → W → Option S) → List (Operation W) → ℕ → ℕ → List ℕ →
      List (Configuration S) → List ℕ →
      List (Configuration S) → Option Verdict → Type 0
  IsEventPassed true after log budget place under_way held under_way' held' r =
      IsEndPassed after log budget place under_way held under_way' held' r
  IsEventPassed false after log budget place under_way held under_way' held' r = IsBeginPassed place under_way held
      under_way' held' r
