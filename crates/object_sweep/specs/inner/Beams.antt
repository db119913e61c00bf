-- Marks on the way of a narrow sweep, to which it goes back. Only private functions cite this.
use Rattle.std.specs.Prelude.{◌≡◌, ℕ, ◌≤◌, true, List, length, slice_get, take, Option, Some, ◌⊎◌}
use Rattle.object_core.specs.declared.operation.Operation.{Operation}
use Rattle.object_sweep.specs.declared.beam.Narrow.{Narrow}
use Rattle.object_sweep.specs.declared.beam.Narrow.TheVariants.{Known, Open}
use Rattle.object_sweep.specs.declared.configuration.Configuration.{Configuration}
use Rattle.object_sweep.specs.declared.event.Event.{Event}
use Rattle.object_sweep.specs.declared.front.Front.{Front}
use Rattle.object_sweep.specs.declared.front.Mark.{Mark}
use Rattle.object_sweep.specs.inner.Events.{IsFrontBehind, IsOpened}
use Rattle.object_sweep.specs.inner.Steps.{IsMadeOf}
use Rattle.object_sweep.specs.Verdicts.{IsSweepVerdict}

module _ {S : Type 0} where
  -- the first n of these are copied, in their order
  pub record AreCopies (n : ℕ) (held copies : List (Configuration S)) : Type 0 where
    pub as_many : length copies ≡ n
    pub each : (i : ℕ) (one copy : Configuration S) → slice_get held i ≡ Some one → slice_get copies i ≡ Some copy →
        IsMadeOf copy one.state one.placed.items

  -- the same front
  pub record IsSameFront (one other : Front S) : Type 0 where
    pub whole : other.whole ≡ one.whole
    pub under_way : other.under_way.items ≡ one.under_way.items
    pub copies : AreCopies (length one.configurations.items) one.configurations.items other.configurations.items

  -- before all events
  abbrev pub IsFirstMark : S → Mark S → Type 0
  IsFirstMark opening mark = (mark.done ≡ 0) × (mark.front.whole ≡ true)
      × IsOpened opening mark.front.under_way.items mark.front.configurations.items

  -- one of these, or that before all events
  abbrev pub IsMarkOf : S → List (Mark S) → Mark S → Type 0
  IsMarkOf opening marks mark = IsFirstMark opening mark ⊎ ((i : ℕ) × (slice_get marks i ≡ Some mark))

  -- those that are left were there
  abbrev pub AreLeftOf : List (Mark S) → List (Mark S) → Type 0
  AreLeftOf old new = (i : ℕ) (mark : Mark S) → slice_get new i ≡ Some mark → slice_get old i ≡ Some mark

  -- each was there, or is the same as this one
  abbrev pub MayHaveMarked : Mark S → List (Mark S) → List (Mark S) → Type 0
  MayHaveMarked at old new = (i : ℕ) (mark : Mark S) → slice_get new i ≡ Some mark →
      (slice_get old i ≡ Some mark) ⊎ ((mark.done ≡ at.done) × IsSameFront at.front mark.front)

module _ {S W : Type 0} where
  -- what the mark holds is behind the first of these events
  abbrev pub IsMarkBehind : (S → W → Option S) → S → List (Operation W) → List Event → Mark S → Type 0
  IsMarkBehind after opening log events mark = (mark.done ≤ length events)
      × IsFrontBehind mark.front.whole after opening log (take mark.done events) mark.front.under_way.items
      mark.front.configurations.items

  abbrev pub AreMarksBehind : (S → W → Option S) → S → List (Operation W) → List Event → List (Mark S) → Type 0
  AreMarksBehind after opening log events marks = (i : ℕ) (mark : Mark S) → slice_get marks i ≡ Some mark →
      IsMarkBehind after opening log events mark

  -- a verdict, or a mark at which nothing was left out
  abbrev pub IsNarrow : (S → W → Option S) → S → List (Operation W) → List Event → ℕ → Narrow S → Type 0
  IsNarrow after opening log events budget (Known verdict) = IsSweepVerdict after opening log budget verdict
  IsNarrow after opening log events budget (Open mark) =
      IsMarkBehind after opening log events mark × (mark.front.whole ≡ true)
