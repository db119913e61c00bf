-- What the ends up to a moment leave. Only private functions cite this.
use Rattle.std.specs.Prelude.{ℕ, ◌+◌, ◌≤◌, List, Option}
use Rattle.object_core.specs.declared.operation.Operation.{Operation}
use Rattle.object_watch.specs.Remainders.{AreAhead, AreLedTo}
use Rattle.object_watch.specs.Watches.{AreTooManyAt, IsHeldOf, IsLawfulBetween, IsFirstLost}
use Rattle.object_watch.specs.declared.pass.Passed.{Passed}
use Rattle.object_watch.specs.declared.pass.Passed.TheVariants.{Open, Lost, TooMany}
use Rattle.object_watch.specs.declared.remainder.Remainder.{Remainder}

module _ {S W : Type 0} where
  -- what is left ends behind the moment
  abbrev pub IsAheadPassed : ℕ → Passed S W → Type 0
  IsAheadPassed last (Open held) = AreAhead (last + 1) held.items
  IsAheadPassed last (Lost at op) = Unit {0}
  IsAheadPassed last (TooMany at) = Unit {0}

  -- nothing else is left than what there was leads to
  abbrev pub IsOfPassed : (S → W → Option S) → List (Remainder S W) → Passed S W → Type 0
  IsOfPassed after held (Open left) = AreLedTo after held left.items
  IsOfPassed after held (Lost at op) = Unit {0}
  IsOfPassed after held (TooMany at) = Unit {0}

  -- up to a moment: the log is lawful by each moment up to it, or there is an end at which that isn't known any more
  abbrev pub ArePassed : (S → W → Option S) → S → List (Operation W) → ℕ → ℕ → Passed S W → Type 0
  ArePassed after opening log first last (Open held) =
      IsHeldOf after opening log (last + 1) held.items × IsLawfulBetween after opening log first (last + 1)
  ArePassed after opening log first last (Lost at op) = (at ≤ last) × IsFirstLost after opening log first at op
  ArePassed after opening log first last (TooMany at) = (at ≤ last) × AreTooManyAt after opening log first at
