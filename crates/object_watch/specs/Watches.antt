-- A log that is watched as it comes: what is known of it at each moment (this project's own). What is lawful is so by
-- M. Herlihy and J. Wing, Linearizability, ACM TOPLAS 12, 1990.
use Rattle.std.specs.Prelude.{◌≡◌, ℕ, ◌+◌, ◌<◌, ◌≤◌, max, min, List, length, map, ◌++◌, Option, Some, IsSomeAnd}
use Rattle.std.specs.Prelude.{◌↔◌, [], slice_get}
use Rattle.object_core.specs.declared.operation.Operation.{Operation}
use Rattle.object_core.specs.Logs.{IsLinearizable}
use Rattle.object_watch.specs.Remainders.{AnyLawfulWith, AreAhead, AreLedTo, ComesFrom, IsOneOfLog, IsOfOne, known}
use Rattle.object_watch.specs.declared.remainder.Remainder.{Remainder}
use Rattle.object_watch.specs.declared.watch.Ended.{Ended}
use Rattle.object_watch.specs.declared.watch.Ended.TheVariants.{Lawful, Lost as EndedLost, TooMany as EndedTooMany}
use Rattle.object_watch.specs.declared.watch.Risen.{Risen}
use Rattle.object_watch.specs.declared.watch.Risen.TheVariants.{Open, Lost, TooMany}
use Rattle.object_watch.specs.declared.watch.Watch.{Watch}
use Rattle.object_watch.specs.declared.watch.WatchError.{WatchError}
use Rattle.object_watch.specs.declared.watch.WatchError.TheVariants.{NoMemory, Backwards, Late}

-- the last moment that there is, which no watch leaves behind
abbrev pub last_moment : ℕ
last_moment = 18446744073709551615

-- an operation can be taken: it begins at the watch's moment or later, and didn't end before it began
abbrev pub IsTimely : {W : Type 0} → ℕ → Operation W → Type 0
IsTimely moment op = (moment ≤ op.starts) × ¬ IsSomeAnd op.ends (λ end. end < op.starts)

module _ {S W : Type 0} where
  -- why an operation isn't taken; but for memory that leaves the watch as it was
  abbrev pub IsTakeFault : Operation W → Watch S W → Watch S W → WatchError → Type 0
  IsTakeFault op old new NoMemory = IsTimely old.moment op
  IsTakeFault op old new Backwards =
      (old.moment ≤ op.starts) × IsSomeAnd op.ends (λ end. end < op.starts) × (new ≡ old)
  IsTakeFault op old new Late = (op.starts < old.moment) × (new ≡ old)

  -- what is held runs forwards, if the log isn't lost
  abbrev pub IsAheadOpen : Risen S W → Type 0
  IsAheadOpen (Open watch) = AreAhead 0 watch.held.items
  IsAheadOpen (Lost at op) = Unit {0}
  IsAheadOpen (TooMany at) = Unit {0}

  -- all that is held is this state, and no operation
  abbrev pub AreOpenedAs : S → List (Remainder S W) → Type 0
  AreOpenedAs opening held = (i : ℕ) (one : Remainder S W) → slice_get held i ≡ Some one →
      (one.state ≡ opening) × (one.rest.items ≡ [])

  -- nothing else is held than what was held leads to, if the log isn't lost
  abbrev pub IsLedToOpen : (S → W → Option S) → List (Remainder S W) → Risen S W → Type 0
  IsLedToOpen after held (Open watch) = AreLedTo after held watch.held.items
  IsLedToOpen after held (Lost at op) = Unit {0}
  IsLedToOpen after held (TooMany at) = Unit {0}

module _ {S W : Type 0} (after : S → W → Option S) (opening : S) (log : List (Operation W)) where
  -- as it is known at this moment, the log has a lawful order: what ends later has no end yet
  abbrev pub IsLawfulUntil : ℕ → Type 0
  IsLawfulUntil moment = IsLinearizable after opening (map (known moment) log)

  -- by each moment from the one before the first of these up to the one before the second
  abbrev pub IsLawfulBetween : ℕ → ℕ → Type 0
  IsLawfulBetween first moment = (m : ℕ) → first ≤ m + 1 → m < moment → IsLawfulUntil m

  -- whatever comes after this moment, the log has no lawful order
  abbrev pub IsLostAfter : ℕ → Type 0
  IsLostAfter moment = (future : List (Operation W)) (last : ℕ) → ComesFrom (moment + 1) last future →
      ¬ IsLinearizable after opening (map (known last) (log ++ future))

  -- an operation of the log ends then
  abbrev pub EndsThen : ℕ → Operation W → Type 0
  EndsThen at op = IsOneOfLog log op × (op.ends ≡ Some at)

  -- what is held of the log, to which operations come that begin at this moment or later: with all that may come
  -- the log has a lawful order exactly if something that is held has one
  pub record IsHeldOf (moment : ℕ) (held : List (Remainder S W)) : Type 0 where
    pub some : 0 < length held
    pub ahead : AreAhead moment held
    pub of : (o : Operation W) → IsOfOne held o → IsOneOfLog log o
    pub goes : (future : List (Operation W)) (last : ℕ) → ComesFrom moment last future →
        (IsLinearizable after opening (map (known last) (log ++ future)) ↔ AnyLawfulWith after future last held)

  -- the watch is of this log
  abbrev pub IsWatchOf : Watch S W → Type 0
  IsWatchOf watch = IsHeldOf watch.moment watch.held.items

  -- the log is lost at this end of one of its operations, and was lawful before
  pub record IsFirstLost (first at : ℕ) (op : Operation W) : Type 0 where
    pub ends : EndsThen at op
    pub lawful : IsLawfulBetween first at
    pub lost : IsLostAfter at

  -- more is held than may be at this end of one of its operations, before which the log was lawful
  pub record AreTooManyAt (first at : ℕ) : Type 0 where
    pub ends : (op : Operation W) × EndsThen at op
    pub lawful : IsLawfulBetween first at

  -- nothing more begins by this moment
  abbrev pub IsRisen : Watch S W → ℕ → Risen S W → Type 0
  IsRisen old last (Open new) = (new.moment ≡ max old.moment (min (last + 1) last_moment)) × IsWatchOf new
      × IsLawfulBetween old.moment new.moment
  IsRisen old last (Lost at op) = (at ≤ last) × IsFirstLost old.moment at op
  IsRisen old last (TooMany at) = (at ≤ last) × AreTooManyAt old.moment at

  -- nothing more comes
  abbrev pub IsVerdictOnAll : Watch S W → Ended W → Type 0
  IsVerdictOnAll old Lawful = IsLinearizable after opening log
  IsVerdictOnAll old (EndedLost at op) = IsFirstLost old.moment at op × ¬ IsLinearizable after opening log
  IsVerdictOnAll old (EndedTooMany at) = AreTooManyAt old.moment at
