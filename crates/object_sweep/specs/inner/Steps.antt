-- What one step of the sweep adds to the configurations. Only private functions cite this.
use Rattle.std.specs.Prelude.{◌≡◌, ℕ, ◌<◌, ◌≤◌, Bool, true, false, nat_eq, cond, List, [], ◌∷◌, ◌++◌, length, slice_get}
use Rattle.std.specs.Prelude.{take, Option, None, Some}
use Rattle.std.specs.Prelude.{◌⊎◌, ◌||◌, not}
use Rattle.std.specs.List.{list_all}
use Rattle.object_core.specs.declared.operation.Operation.{Operation}
use Rattle.object_core.specs.Logs.{is_due}
use Rattle.object_sweep.specs.declared.configuration.Configuration.{Configuration}
use Rattle.object_sweep.specs.Reached.{AreApart, AreReachable, is_closed, is_in, is_within, IsNextEnd, IsReachable}
use Rattle.object_sweep.specs.Reached.{without}
use Rattle.object_sweep.specs.Rests.{CanFinish, RunForwards}
use Rattle.object_sweep.specs.inner.Cuts.{EndsAt, IsLogCut}

-- whether the operation at a place is sure to have taken effect
abbrev pub is_sure : {W : Type 0} → Option (Operation W) → Bool
is_sure None = false
is_sure (Some o) = is_due o

abbrev pub sure_at : {W : Type 0} → List (Operation W) → ℕ → Bool
sure_at log place = is_sure (slice_get log place)

-- of these places those that are sure are among the placed
abbrev pub has_sure : (ℕ → Bool) → List ℕ → List ℕ → Bool
has_sure sure placed others = list_all (λ q. is_in q placed || not (sure q)) others

module _ {S : Type 0} where
  -- it has the very list of places
  abbrev pub IsMadeOf : Configuration S → S → List ℕ → Type 0
  IsMadeOf one state placed = (one.state ≡ state) × (one.placed.items ≡ placed)

  -- a configuration can do all that another can, which has this state and has placed these: what that one has placed
  -- beside need not be placed
  abbrev pub Covers : (ℕ → Bool) → Configuration S → S → List ℕ → Type 0
  Covers sure one state placed = (one.state ≡ state) × (is_within one.placed.items placed ≡ true)
      × (has_sure sure one.placed.items placed ≡ true)

  -- one of these can
  abbrev pub IsCovered : (ℕ → Bool) → List (Configuration S) → S → List ℕ → Type 0
  IsCovered sure held state placed = (i : ℕ) × (one : Configuration S) × (slice_get held i ≡ Some one)
      × Covers sure one state placed

  -- all that stood there stands there
  abbrev pub IsGrown : List (Configuration S) → List (Configuration S) → Type 0
  IsGrown old new = (i : ℕ) (one : Configuration S) → slice_get old i ≡ Some one → slice_get new i ≡ Some one

  -- one more, where the same wasn't held
  pub record IsAdded (sure : ℕ → Bool) (old : List (Configuration S)) (state : S) (placed : List ℕ)
      (new : List (Configuration S)) : Type 0 where
    pub grown : IsGrown old new
    pub held : IsCovered sure new state placed
    pub from : (i : ℕ) (one : Configuration S) → slice_get new i ≡ Some one →
        ((j : ℕ) × (slice_get old j ≡ Some one)) ⊎ IsMadeOf one state placed
    pub apart : AreApart old → AreApart new

  -- the one at this place, copied
  abbrev pub IsCopyAt : List (Configuration S) → ℕ → Configuration S → Type 0
  IsCopyAt held place copy = (one : Configuration S) × (slice_get held place ≡ Some one)
      × IsMadeOf copy one.state one.placed.items

  -- the configuration after one more operation, by whether that is the one that ends
  abbrev pub IsPut : (ℕ → Bool) → Bool → ℕ → S → List ℕ → List (Configuration S) → List (Configuration S) →
      List (Configuration S) →
      List (Configuration S) → Type 0
  IsPut sure true place state placed waiting kept waiting' kept' = (waiting' ≡ waiting) ×
      IsAdded sure kept state placed kept'
  IsPut sure false place state placed waiting kept waiting' kept' = (kept' ≡ kept)
      × IsAdded sure waiting state (placed ++ place ∷ []) waiting'

  abbrev pub IsTried : (ℕ → Bool) → Option S → ℕ → List ℕ → ℕ → List (Configuration S) → List (Configuration S) →
      List (Configuration S) →
      List (Configuration S) → Type 0
  IsTried sure None ending placed place waiting kept waiting' kept' = (waiting' ≡ waiting) × (kept' ≡ kept)
  IsTried sure (Some state) ending placed place waiting kept waiting' kept' =
      IsPut sure (nat_eq place ending) place state placed waiting kept waiting' kept'

  abbrev pub IsLeftOut : (ℕ → Bool) → Bool → S → List ℕ → List (Configuration S) → List (Configuration S) →
      List (Configuration S) →
      List (Configuration S) → Type 0
  IsLeftOut sure true state placed waiting kept waiting' kept' = (waiting' ≡ waiting) ×
      IsAdded sure kept state placed kept'
  IsLeftOut sure false state placed waiting kept waiting' kept' = (waiting' ≡ waiting) × (kept' ≡ kept)

  -- one of the configurations at hand, as the end begins
  abbrev pub IsSorted : (ℕ → Bool) → Bool → ℕ → S → List ℕ → List (Configuration S) → List (Configuration S) →
      List (Configuration S) →
      List (Configuration S) → Type 0
  IsSorted sure true ending state placed waiting kept waiting' kept' = (waiting' ≡ waiting)
      × IsAdded sure kept state (without ending placed) kept'
  IsSorted sure false ending state placed waiting kept waiting' kept' = (kept' ≡ kept)
      × IsAdded sure waiting state placed waiting'

  -- the configuration after one more operation is held
  abbrev pub IsPutIn : (ℕ → Bool) → Bool → ℕ → S → List ℕ → List (Configuration S) → List (Configuration S) → Type 0
  IsPutIn sure true place state placed waiting kept = IsCovered sure kept state placed
  IsPutIn sure false place state placed waiting kept = IsCovered sure waiting state (placed ++ place ∷ [])

-- whether the operation at a place may have done nothing
abbrev pub maybe_of : {W : Type 0} → Option (Operation W) → Bool
maybe_of None = false
maybe_of (Some o) = o.maybe

abbrev pub may_be_left_out : {W : Type 0} → List (Operation W) → ℕ → Bool
may_be_left_out log place = maybe_of (slice_get log place)

-- these are under way at a moment, and no others
pub record AreUnderWay {W : Type 0} (log : List (Operation W)) (under_way ended : List ℕ) (end : ℕ) : Type 0 where
  pub begun : (q : ℕ) → is_in q under_way ≡ true →
      (o : Operation W) × (slice_get log q ≡ Some o) × (o.starts ≤ end) × (is_in q ended ≡ false)
  pub all : (q : ℕ) (o : Operation W) → slice_get log q ≡ Some o → o.starts ≤ end → is_in q ended ≡ false →
      is_in q under_way ≡ true

-- of two that end at one moment that at the lower place ends first
abbrev pub EndsFirst : ℕ → ℕ → Option ℕ → Option ℕ → Type 0
EndsFirst p q end other = (at : ℕ) → end ≡ Some at → other ≡ Some at → p ≤ q

module _ {S W : Type 0} where
  -- the state after one more operation, if it can be placed
  abbrev pub made_by : (S → W → Option S) → S → Option (Operation W) → Option S
  made_by after s None = None
  made_by after s (Some o) = after s o.what

  abbrev pub step_from : (S → W → Option S) → List (Operation W) → S → List ℕ → ℕ → Option S
  step_from after log s placed q = cond (is_in q placed) None (made_by after s (slice_get log q))

  -- at an end: what waits, and what is behind it, is reached, and no two are the same
  pub record AreSound (after : S → W → Option S) (opening : S) (log : List (Operation W)) (ended : List ℕ) (ending : ℕ)
      (waiting kept : List (Configuration S)) : Type 0 where
    pub reached_waiting : AreReachable after opening log ended waiting
    pub lacking : (i : ℕ) (one : Configuration S) → slice_get waiting i ≡ Some one →
        is_in ending one.placed.items ≡ false
    pub reached_kept : AreReachable after opening log (ending ∷ ended) kept
    pub waiting_apart : AreApart waiting
    pub kept_apart : AreApart kept

  -- an operation leaves every state as it is
  abbrev pub IsPure : (S → W → Option S) → Operation W → Type 0
  IsPure after o = (s t : S) → after s o.what ≡ Some t → t ≡ s

  -- it is sure to have taken effect, or not
  abbrev pub IsSureAndPure : (S → W → Option S) → Option (Operation W) → Type 0
  IsSureAndPure after None = ⊥
  IsSureAndPure after (Some o) = (is_due o ≡ true) × IsPure after o

  abbrev pub IsIdle : (S → W → Option S) → Option (Operation W) → Type 0
  IsIdle after None = ⊥
  IsIdle after (Some o) = (is_due o ≡ false) × IsPure after o

  -- one operation may be placed in another's place: it makes the same step in every state, it surely took effect if the
  -- other did, and it ended no later
  pub record IsInPlaceOf (after : S → W → Option S) (a b : Operation W) : Type 0 where
    pub same : (s : S) → after s a.what ≡ after s b.what
    pub due : is_due b ≡ true → is_due a ≡ true
    pub sooner : (end : ℕ) → b.ends ≡ Some end → (at : ℕ) × (a.ends ≡ Some at) × (at ≤ end)

  abbrev pub MayStandFor : (S → W → Option S) → ℕ → ℕ → Option (Operation W) → Option (Operation W) → Type 0
  MayStandFor after p q (Some a) (Some b) = IsInPlaceOf after a b × EndsFirst p q a.ends b.ends
  MayStandFor after p q (Some a) None = ⊥
  MayStandFor after p q None b = ⊥

  -- the operation at place r is placed for that at place q: it is the same one, or it is under way, isn't placed, and
  -- may be in its place
  abbrev pub StandsInFor : (S → W → Option S) → List (Operation W) → List ℕ → List ℕ → ℕ → ℕ → Type 0
  StandsInFor after log under_way placed r q =
      (r ≡ q) ⊎ ((is_in r under_way ≡ true) × (is_in r placed ≡ false)
      × MayStandFor after r q (slice_get log r) (slice_get log q))

  -- one of these may be in its place
  abbrev pub StandsOneFor : (S → W → Option S) → List (Operation W) → List ℕ → ℕ → Type 0
  StandsOneFor after log tried q = (i r : ℕ) × (slice_get tried i ≡ Some r)
      × MayStandFor after r q (slice_get log r) (slice_get log q)

  -- an operation need not be tried: it is placed, or idle, or one that was tried may be in its place
  abbrev pub NeedNotBeTried : (S → W → Option S) → List (Operation W) → List ℕ → List ℕ → ℕ → Type 0
  NeedNotBeTried after log placed tried q =
      (is_in q placed ≡ true) ⊎ (IsIdle after (slice_get log q) ⊎ StandsOneFor after log tried q)

  -- what an operation leads to is held, or what another one leads to that is placed for it
  abbrev pub IsPlacedFor : (ℕ → Bool) → (S → W → Option S) → List (Operation W) → List ℕ → ℕ → List ℕ → ℕ → S →
      List (Configuration S) → List (Configuration S) → Type 0
  IsPlacedFor sure after log under_way ending placed q t waiting kept =
      (r : ℕ) × StandsInFor after log under_way placed r q × IsPutIn sure (nat_eq r ending) r t placed waiting kept

  -- all that a configuration leads to is held, but for what is idle
  pub record AreTried (sure : ℕ → Bool) (after : S → W →
      Option S) (log : List (Operation W)) (under_way : List ℕ) (ending : ℕ) (s : S)
      (placed : List ℕ)
      (waiting kept : List (Configuration S)) : Type 0 where
    pub left_out : may_be_left_out log ending ≡ true → IsCovered sure kept s placed
    pub tried : (j q : ℕ) (t : S) → slice_get under_way j ≡ Some q → step_from after log s placed q ≡ Some t →
        IsIdle after (slice_get log q) ⊎ IsPlacedFor sure after log under_way ending placed q t waiting kept

  -- of a configuration all that it leads to is held, or what a pure operation leads to that can be placed
  pub data IsHandled (sure : ℕ → Bool) (after : S → W →
      Option S) (log : List (Operation W)) (under_way : List ℕ) (ending : ℕ) (s : S)
      (placed : List ℕ)
      (waiting kept : List (Configuration S)) : Type 0 where
    Tries : AreTried sure after log under_way ending s placed waiting kept →
        IsHandled sure after log under_way ending s placed waiting kept
    Places : (q : ℕ) (o : Operation W) (t : S) → slice_get log q ≡ Some o → sure q ≡ true → IsPure after o →
        is_in q under_way ≡ true → is_in q placed ≡ false → after s o.what ≡ Some t →
        IsPutIn sure (nat_eq q ending) q t placed waiting kept →
        IsHandled sure after log under_way ending s placed waiting kept

  -- the first operations under way are tried
  pub record IsExplored (sure : ℕ → Bool) (after : S → W →
      Option S) (log : List (Operation W)) (under_way : List ℕ) (ending : ℕ) (s : S)
      (placed : List ℕ) (n : ℕ) (waiting kept waiting' kept' : List (Configuration S)) : Type 0 where
    pub grown_waiting : IsGrown waiting waiting'
    pub grown_kept : IsGrown kept kept'
    pub left_out : may_be_left_out log ending ≡ true → IsCovered sure kept' s placed
    pub tried : (j q : ℕ) (t : S) → j < n → slice_get under_way j ≡ Some q → step_from after log s placed q ≡ Some t →
        IsIdle after (slice_get log q) ⊎ IsPlacedFor sure after log under_way ending placed q t waiting' kept'
    pub sound : (opening : S) (ended : List ℕ) (end : ℕ) → IsNextEnd log ended ending end →
        AreUnderWay log under_way ended end →
        IsReachable after opening log ended s placed → is_in ending placed ≡ false →
        AreSound after opening log ended ending waiting kept → AreSound after opening log ended ending waiting' kept'

  -- a configuration is explored
  pub record IsVisited (sure : ℕ → Bool) (after : S → W →
      Option S) (log : List (Operation W)) (under_way : List ℕ) (ending : ℕ) (s : S)
      (placed : List ℕ) (waiting kept waiting' kept' : List (Configuration S)) : Type 0 where
    pub grown_waiting : IsGrown waiting waiting'
    pub grown_kept : IsGrown kept kept'
    pub handled : IsHandled sure after log under_way ending s placed waiting' kept'
    pub sound : (opening : S) (ended : List ℕ) (end : ℕ) → IsNextEnd log ended ending end →
        AreUnderWay log under_way ended end →
        IsReachable after opening log ended s placed → is_in ending placed ≡ false →
        AreSound after opening log ended ending waiting kept → AreSound after opening log ended ending waiting' kept'

  -- a sure and pure operation that is under way and can be placed
  abbrev pub IsPureNext : (S → W → Option S) → List (Operation W) → List ℕ → S → List ℕ → ℕ → Type 0
  IsPureNext after log under_way s placed q = (j : ℕ) × (t : S) × (slice_get under_way j ≡ Some q)
      × IsSureAndPure after (slice_get log q) × (step_from after log s placed q ≡ Some t)

  -- the first of those that wait are explored
  pub record AreExplored (sure : ℕ → Bool) (after : S → W →
      Option S) (log : List (Operation W)) (under_way : List ℕ) (ending n : ℕ)
      (waiting kept waiting' kept' : List (Configuration S)) : Type 0 where
    pub grown_waiting : IsGrown waiting waiting'
    pub grown_kept : IsGrown kept kept'
    pub handled : (i : ℕ) (one : Configuration S) → i < n → slice_get waiting' i ≡ Some one →
        IsHandled sure after log under_way ending one.state one.placed.items waiting' kept'
    pub sound : (opening : S) (ended : List ℕ) (end : ℕ) → IsNextEnd log ended ending end →
        AreUnderWay log under_way ended end →
        AreSound after opening log ended ending waiting kept → AreSound after opening log ended ending waiting' kept'

  -- all of those that wait, or there are too many
  abbrev pub IsClosed : (ℕ → Bool) → (S → W → Option S) → List (Operation W) → List ℕ → ℕ → ℕ → List (Configuration S) →
      List (Configuration S) →
      List (Configuration S) → List (Configuration S) → Bool → Type 0
  IsClosed sure after log under_way ending budget waiting kept waiting' kept' true =
      AreExplored sure after log under_way ending (length waiting') waiting kept waiting' kept'
  IsClosed sure after log under_way ending budget waiting kept waiting' kept' false =
      (n : ℕ) × AreExplored sure after log under_way ending n waiting kept waiting' kept' ×
      ((budget < length waiting') ⊎ (budget < length kept'))

  -- as an end begins: each of the first n configurations waits, or has placed the operation that ends
  pub record AreStarted (sure : ℕ → Bool) (after : S → W → Option S) (log : List (Operation W)) (ending n : ℕ)
      (configurations waiting kept : List (Configuration S)) : Type 0 where
    pub held : (i : ℕ) (one : Configuration S) → i < n → slice_get configurations i ≡ Some one →
        (is_in ending one.placed.items ≡ true → IsCovered sure kept one.state (without ending one.placed.items)) ×
        (is_in ending one.placed.items ≡ false → IsCovered sure waiting one.state one.placed.items)
    pub sound : (opening : S) (ended : List ℕ) (end : ℕ) → IsNextEnd log ended ending end →
        AreReachable after opening log ended configurations → AreSound after opening log ended ending waiting kept

  -- one of these can be finished
  abbrev pub AnyCanFinish : (S → W → Option S) → List (Operation W) → List ℕ → List (Configuration S) → Type 0
  AnyCanFinish after log ended held = (i : ℕ) × (one : Configuration S) × (slice_get held i ≡ Some one)
      × CanFinish after log (is_closed ended one.placed.items) one.state

  -- behind an end: what is kept is reached, and if nothing was left out, all that can be finished
  pub record IsPassed (whole : Bool) (after : S → W → Option S) (log : List (Operation W)) (under_way : List ℕ)
      (ending : ℕ) (configurations kept : List (Configuration S)) : Type 0 where
    pub reached : (opening : S) (ended : List ℕ) (end : ℕ) → IsNextEnd log ended ending end →
        AreUnderWay log under_way ended end →
        AreReachable after opening log ended configurations → AreReachable after opening log (ending ∷ ended) kept
    pub complete : whole ≡ true → (opening : S) (ended : List ℕ) (end : ℕ) → RunForwards log →
        IsNextEnd log ended ending end → AreUnderWay log under_way ended end →
        AreReachable after opening log ended configurations →
        (cut : List (Operation W)) → IsLogCut log cut → EndsAt cut ending end →
        AnyCanFinish after cut ended configurations → AnyCanFinish after cut (ending ∷ ended) kept

  -- where a configuration is reached, what it adds is reached too
  abbrev pub AddsReached : (S → W → Option S) → List (Operation W) → List ℕ → ℕ → S → List ℕ → List (Configuration S) →
      List (Configuration S) → List (Configuration S) → List (Configuration S) → Type 0
  AddsReached after log under_way ending s placed waiting kept waiting' kept' = (opening : S) (ended : List ℕ)
      (end : ℕ) → IsNextEnd log ended ending end → AreUnderWay log under_way ended end →
      IsReachable after opening log ended s placed → is_in ending placed ≡ false →
      AreSound after opening log ended ending waiting kept → AreSound after opening log ended ending waiting' kept'

  -- where all are reached, those that are added are too
  abbrev pub KeepsSound : (S → W → Option S) → List (Operation W) → List ℕ → ℕ → List (Configuration S) →
      List (Configuration S) → List (Configuration S) → List (Configuration S) → Type 0
  KeepsSound after log under_way ending waiting kept waiting' kept' = (opening : S) (ended : List ℕ) (end : ℕ) →
      IsNextEnd log ended ending end → AreUnderWay log under_way ended end →
      AreSound after opening log ended ending waiting kept → AreSound after opening log ended ending waiting' kept'

-- the first so many of these; they are whole if all of them are, and no more
abbrev pub IsNarrowed : {S : Type 0} → ℕ → List (Configuration S) → List (Configuration S) → Bool → Bool → Type 0
IsNarrowed width all kept whole whole' =
    (kept ≡ take width all) × (whole' ≡ true → (whole ≡ true) × (length all ≤ width))
