-- The events of a log, and what the sweep holds behind the first of them. Only private functions cite this.
use Rattle.std.specs.Prelude.{◌≡◌, ℕ, ◌<◌, ◌≤◌, Bool, true, false, List, [], ◌∷◌, length, slice_get, Option, None}
use Rattle.std.specs.Prelude.{map, Some}
use Rattle.object_core.specs.declared.operation.Operation.{Operation}
use Rattle.object_core.specs.Logs.{IsLinearizable}
use Rattle.object_sweep.specs.declared.configuration.Configuration.{Configuration}
use Rattle.object_sweep.specs.declared.event.Event.{Event}
use Rattle.object_sweep.specs.declared.event.Turn.{Turn}
use Rattle.object_sweep.specs.inner.Cuts.{IsLogCut, KeepsEnds}
use Rattle.object_sweep.specs.inner.Steps.{AnyCanFinish}
use Rattle.object_sweep.specs.Reached.{AreReachable, is_in}

-- this event is among these
abbrev pub IsEventAmong : Event → List Event → Type 0
IsEventAmong e events = (i : ℕ) × (slice_get events i ≡ Some e)

abbrev pub begins : ℕ → ℕ → Event
begins at place = record { at = at; ends = false; place = place }

abbrev pub ends : ℕ → ℕ → Event
ends at place = record { at = at; ends = true; place = place }

abbrev pub end_of : Option ℕ → ℕ → List Event
end_of None place = []
end_of (Some at) place = ends at place ∷ []

abbrev pub events_of : {W : Type 0} → Operation W → ℕ → List Event
events_of o place = begins o.starts place ∷ end_of o.ends place

-- the moment that stands there
abbrev pub moment : Option ℕ → ℕ
moment None = 0
moment (Some at) = at

-- the beginning of an operation and its end, without their moments
abbrev pub end_turn : Option ℕ → ℕ → List Turn
end_turn None place = []
end_turn (Some at) place = record { ends = true; place = place } ∷ []

abbrev pub turns_of : {W : Type 0} → Operation W → ℕ → List Turn
turns_of o place = record { ends = false; place = place } ∷ end_turn o.ends place

module _ {W : Type 0} where
  abbrev pub moment_in : Option (Operation W) → Bool → ℕ
  moment_in None ends = 0
  moment_in (Some o) false = o.starts
  moment_in (Some o) true = moment o.ends

  -- when the operation at a place begins or ends
  abbrev pub moment_of : List (Operation W) → ℕ → Bool → ℕ
  moment_of log place ends = moment_in (slice_get log place) ends

  abbrev pub event_of : List (Operation W) → Turn → Event
  event_of log turn = record { at = moment_of log turn.place turn.ends; ends = turn.ends; place = turn.place }

  -- these events, each with its moment
  abbrev pub events_at : List (Operation W) → List Turn → List Event
  events_at log turns = map (event_of log) turns

-- x comes no later than y
pub record ComesNoLater (x y : Event) : Type 0 where
  pub at : x.at ≤ y.at
  pub ends : x.at ≡ y.at → x.ends ≡ true → y.ends ≡ true
  pub place : x.at ≡ y.at → x.ends ≡ y.ends → x.place ≤ y.place

module _ {W : Type 0} where
  -- an operation begins or ends then
  abbrev pub IsEvent : List (Operation W) → Event → Type 0
  IsEvent log e = (o : Operation W) × (slice_get log e.place ≡ Some o)
      × (e.ends ≡ false → o.starts ≡ e.at) × (e.ends ≡ true → o.ends ≡ Some e.at)

  -- the events of the operations at the first n places
  pub record HaveEvents (log : List (Operation W)) (n : ℕ) (events : List Event) : Type 0 where
    pub each : (e : Event) → IsEventAmong e events → IsEvent log e
    pub begun : (p : ℕ) (o : Operation W) → p < n → slice_get log p ≡ Some o → IsEventAmong (begins o.starts p) events
    pub ended : (p at : ℕ) (o : Operation W) → p < n → slice_get log p ≡ Some o → o.ends ≡ Some at →
        IsEventAmong (ends at p) events

  pub record AreEvents (log : List (Operation W)) (events : List Event) : Type 0 where
    pub all : HaveEvents log (length log) events
    pub in_order : (i j : ℕ) (x y : Event) → slice_get events i ≡ Some x → slice_get events j ≡ Some y → i < j →
        ComesNoLater x y

-- nothing is under way, and the object is as it was opened
abbrev pub IsOpened : {S : Type 0} → S → List ℕ → List (Configuration S) → Type 0
IsOpened {S} opening under_way configurations = (under_way ≡ []) ×
    ((one : Configuration S) × (configurations ≡ one ∷ []) × (one.state ≡ opening) × (one.placed.items ≡ []))

module _ {S W : Type 0} where
  -- what is held behind these events: each is reached, and if nothing was left out, what can be finished is among them
  pub record IsFrontBehind (whole : Bool) (after : S → W → Option S) (opening : S) (log : List (Operation W))
      (done : List Event) (under_way : List ℕ) (configurations : List (Configuration S)) : Type 0 where
    pub ended : List ℕ
    pub have_ended : (q : ℕ) → is_in q ended ≡ true → (at : ℕ) × IsEventAmong (ends at q) done
    pub all_ended : (q at : ℕ) → IsEventAmong (ends at q) done → is_in q ended ≡ true
    pub have_begun : (q : ℕ) → is_in q under_way ≡ true → ((at : ℕ) × IsEventAmong (begins at q) done)
        × (is_in q ended ≡ false)
    pub all_begun : (q at : ℕ) → IsEventAmong (begins at q) done → is_in q ended ≡ false → is_in q under_way ≡ true
    pub reached : AreReachable after opening log ended configurations
    pub complete : whole ≡ true → (cut : List (Operation W)) → IsLogCut log cut → KeepsEnds log cut ended →
        IsLinearizable after opening cut → AnyCanFinish after cut ended configurations
    pub some : 0 < length configurations
