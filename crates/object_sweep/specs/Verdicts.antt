-- What the sweep answers.
use Rattle.std.specs.Prelude.{ℕ, ◌<◌, List, slice_get, Option, IsSomeAnd}
use Rattle.object_core.specs.declared.operation.Operation.{Operation}
use Rattle.object_core.specs.Logs.{IsLinearizable}
use Rattle.object_sweep.specs.declared.log_sweep.SweepError.{SweepError}
use Rattle.object_sweep.specs.declared.log_sweep.SweepError.TheVariants.{NoMemory, Backwards}
use Rattle.object_sweep.specs.declared.log_sweep.Verdict.{Verdict}
use Rattle.object_sweep.specs.declared.log_sweep.Verdict.TheVariants.{Lawful, Unlawful, TooMany}
use Rattle.object_sweep.specs.Reached.{AreTooMany, IsLostAt}

module _ {W : Type 0} where
  -- the operation at this place ended before it began
  abbrev pub RanBackwards : List (Operation W) → ℕ → Type 0
  RanBackwards log place = IsSomeAnd (slice_get log place) (λ o. IsSomeAnd o.ends (λ end. end < o.starts))

  -- why there is no verdict
  abbrev pub IsSweepFault : List (Operation W) → SweepError → Type 0
  IsSweepFault log NoMemory = Unit {0}
  IsSweepFault log (Backwards place) = RanBackwards log place

module _ {S W : Type 0} where
  -- the verdict on a log
  abbrev pub IsSweepVerdict : (S → W → Option S) → S → List (Operation W) → ℕ → Verdict → Type 0
  IsSweepVerdict after opening log budget Lawful = IsLinearizable after opening log
  IsSweepVerdict after opening log budget (Unlawful place) =
      ¬ IsLinearizable after opening log × IsLostAt after opening log place
  IsSweepVerdict after opening log budget (TooMany place) = AreTooMany after opening log budget place
