-- What one end leaves, an operation at a time. Only private functions cite this.
use Rattle.std.specs.Prelude.{◌≡◌, ℕ, ◌<◌, ◌≤◌, ◌+◌, Bool, true, false, ◌&&◌, not, List, [], ◌∷◌, ◌++◌}
use Rattle.std.specs.Prelude.{length, max, min, cond, nat_eq, nat_le, nat_lt}
use Rattle.std.specs.Prelude.{slice_get, Option, None, Some, ◌↔◌, ◌⊎◌}
use Rattle.object_core.specs.declared.operation.Operation.{Operation}
use Rattle.object_core.specs.Logs.{is_due}
use Rattle.object_sweep.specs.inner.Steps.{IsInPlaceOf}
use Rattle.object_watch.specs.Remainders.{AnyLawfulWith, AreAhead, AreLedTo, ComesFrom, IsOfOne, removed}
use Rattle.object_watch.specs.declared.ends.End.{End}
use Rattle.object_watch.specs.declared.remainder.Remainder.{Remainder}

module _ {W : Type 0} where
  -- the operation at this place ends then
  abbrev pub IsEndingAt : List (Operation W) → ℕ → ℕ → Type 0
  IsEndingAt rest end p = (o : Operation W) × (slice_get rest p ≡ Some o) × (o.ends ≡ Some end)

  -- one that ends then, if there is one
  abbrev pub IsEnding : List (Operation W) → ℕ → Option ℕ → Type 0
  IsEnding rest end None = (p : ℕ) → ¬ IsEndingAt rest end p
  IsEnding rest end (Some p) = IsEndingAt rest end p

-- by its end and by whether it may have done nothing: no order needs this operation at this end or later
abbrev pub is_spare_by : ℕ → Option ℕ → Bool → Bool
is_spare_by end None maybe = true
is_spare_by end (Some at) maybe = maybe && not (nat_eq at end)

abbrev pub is_spare : {W : Type 0} → ℕ → Operation W → Bool
is_spare end o = is_spare_by end o.ends o.maybe

module _ {S W : Type 0} where
  -- all of these are still there
  abbrev pub AreStillThere : List (Remainder S W) → List (Remainder S W) → Type 0
  AreStillThere old new = (i : ℕ) (one : Remainder S W) → slice_get old i ≡ Some one → slice_get new i ≡ Some one

  -- the one at this place, in memory of its own
  abbrev pub IsCopiedAt : List (Remainder S W) → ℕ → Remainder S W → Type 0
  IsCopiedAt held i copy = (one : Remainder S W) × (slice_get held i ≡ Some one) × (copy.state ≡ one.state)
      × (copy.rest.items ≡ one.rest.items)

module _ {S W : Type 0} (after : S → W → Option S) where
  -- two operations that nothing tells apart
  abbrev pub IsAlike : Operation W → Operation W → Type 0
  IsAlike a b = (a.starts ≡ b.starts) × (a.ends ≡ b.ends) × (a.maybe ≡ b.maybe)
      × ((s : S) → after s a.what ≡ after s b.what)

  -- the others are these, in their order, and spare ones
  pub data AreWithSpare (end : ℕ) : List (Operation W) → List (Operation W) → Type 0 where
    Ends : AreWithSpare end [] []
    Alike : (a b : Operation W) (rest others : List (Operation W)) → IsAlike a b → AreWithSpare end rest others →
        AreWithSpare end (a ∷ rest) (b ∷ others)
    Spare : (b : Operation W) (rest others : List (Operation W)) → is_spare end b ≡ true →
        AreWithSpare end rest others →
        AreWithSpare end rest (b ∷ others)

  -- the next of those that were met so far is met, or this one is spare
  abbrev pub IsMet : ℕ → List (Operation W) → ℕ → Operation W → ℕ → Type 0
  IsMet end rest met other met' =
      ((a : Operation W) × (slice_get rest met ≡ Some a) × IsAlike a other × (met' ≡ met + 1))
      ⊎ ((is_spare end other ≡ true) × (met' ≡ met))

  -- one of these has this state, and what is left by it are these and spare ones
  abbrev pub IsHeldWithSpare : ℕ → List (Remainder S W) → S → List (Operation W) → Type 0
  IsHeldWithSpare end held s rest = (i : ℕ) × (one : Remainder S W) × (slice_get held i ≡ Some one) × (one.state ≡ s)
      × AreWithSpare end rest one.rest.items

  -- an operation leaves every state as it is
  abbrev pub LeavesAll : Operation W → Type 0
  LeavesAll o = (s t : S) → after s o.what ≡ Some t → t ≡ s

  -- no order needs it
  abbrev pub IsNeedless : Operation W → Type 0
  IsNeedless o = (is_due o ≡ false) × LeavesAll o

  -- a sure and pure operation that began by this end and can be placed
  abbrev pub IsPureStep : ℕ → Operation W → S → Type 0
  IsPureStep end o s = (o.starts ≤ end) × LeavesAll o × (is_due o ≡ true) × ((t : S) × (after s o.what ≡ Some t))

  abbrev pub IsPureAt : ℕ → S → List (Operation W) → ℕ → Type 0
  IsPureAt end s rest q = (o : Operation W) × (slice_get rest q ≡ Some o) × IsPureStep end o s

  -- this is put among them, or is covered; nothing else is new
  pub record IsPutAmong (end : ℕ) (old : List (Remainder S W)) (s : S) (rest : List (Operation W))
      (new : List (Remainder S W)) : Type 0 where
    pub still : AreStillThere old new
    pub covered : IsHeldWithSpare end new s rest
    pub from : (i : ℕ) (one : Remainder S W) → slice_get new i ≡ Some one →
        (slice_get old i ≡ Some one) ⊎ ((one.state ≡ s) × (one.rest.items ≡ rest))

  -- it is left by placing one operation that began by this end, or by leaving out one that ends then
  abbrev pub IsLeftBy : ℕ → S → List (Operation W) → S → List (Operation W) → Type 0
  IsLeftBy end s rest t less =
      ((q : ℕ) × (a : Operation W) × (slice_get rest q ≡ Some a) × (a.starts ≤ end) × (after s a.what ≡ Some t)
      × (less ≡ removed q rest))
      ⊎ ((p : ℕ) × (o : Operation W) × (slice_get rest p ≡ Some o) × (o.ends ≡ Some end) × (o.maybe ≡ true) × (t ≡ s)
      × (less ≡ removed p rest))

  -- all of these are still there, and what is new is left by one operation
  pub record IsGrownBy (end : ℕ) (s : S) (rest : List (Operation W)) (old new : List (Remainder S W)) : Type 0 where
    pub still : AreStillThere old new
    pub from : (i : ℕ) (one : Remainder S W) → slice_get new i ≡ Some one →
        (slice_get old i ≡ Some one) ⊎ IsLeftBy end s rest one.state one.rest.items

  -- what is left where the operation at this place is placed is covered
  abbrev pub IsPlacedIn : ℕ → S → List (Operation W) → ℕ → List (Remainder S W) → Type 0
  IsPlacedIn end s rest q seen = (a : Operation W) (t : S) → slice_get rest q ≡ Some a → a.starts ≤ end →
      after s a.what ≡ Some t → IsHeldWithSpare end seen t (removed q rest)

  -- what is left where the operation at this place is left out is covered, if it may be
  abbrev pub IsLeftOutIn : ℕ → S → List (Operation W) → ℕ → List (Remainder S W) → Type 0
  IsLeftOutIn end s rest p seen = (o : Operation W) → slice_get rest p ≡ Some o → o.maybe ≡ true →
      IsHeldWithSpare end seen s (removed p rest)

  -- an earlier one of these that began by this end may be placed for that at this place
  abbrev pub HasStandIn : ℕ → List (Operation W) → ℕ → Type 0
  HasStandIn end rest q = (r : ℕ) × (a : Operation W) × (b : Operation W) × (r < q) × (slice_get rest r ≡ Some a)
      × (slice_get rest q ≡ Some b) × (a.starts ≤ end) × IsInPlaceOf after a b

  abbrev pub IsTriedIn : ℕ → S → List (Operation W) → ℕ → List (Remainder S W) → Type 0
  IsTriedIn end s rest q seen = HasStandIn end rest q ⊎ IsPlacedIn end s rest q seen

  -- it is left out, and each of the first n is placed, or one that may be placed for it
  abbrev pub AreAllTried : ℕ → S → List (Operation W) → ℕ → ℕ → List (Remainder S W) → Type 0
  AreAllTried end s rest p n seen = IsLeftOutIn end s rest p seen × ((q : ℕ) → q < n → IsTriedIn end s rest q seen)

  -- nothing of it ends then, and it is kept; or a pure operation is placed; or all is tried
  pub data IsSeenTo (end : ℕ) (s : S) (rest : List (Operation W)) (seen kept : List (Remainder S W)) : Type 0 where
    Keeps : IsEnding rest end None → IsHeldWithSpare end kept s rest → IsSeenTo end s rest seen kept
    Places : (p q : ℕ) → IsEndingAt rest end p → IsPureAt end s rest q → IsPlacedIn end s rest q seen →
        IsSeenTo end s rest seen kept
    Tries : (p : ℕ) → IsEndingAt rest end p → AreAllTried end s rest p (length rest) seen →
        IsSeenTo end s rest seen kept

  -- one is visited, at whose place an operation ends
  pub record IsLedOn (end : ℕ) (s : S) (rest : List (Operation W)) (old new : List (Remainder S W)) : Type 0 where
    pub grown : IsGrownBy end s rest old new
    pub handled : (kept : List (Remainder S W)) → IsSeenTo end s rest new kept

  -- one is visited
  pub record IsLookedInto (end : ℕ) (s : S) (rest : List (Operation W)) (seen kept seen' kept' : List (Remainder S W)) :
      Type 0 where
    pub seen_still : AreStillThere seen seen'
    pub seen_from : (i : ℕ) (one : Remainder S W) → slice_get seen' i ≡ Some one → (slice_get seen i ≡ Some one)
        ⊎ (((p : ℕ) × IsEndingAt rest end p) × IsLeftBy end s rest one.state one.rest.items)
    pub kept_still : AreStillThere kept kept'
    pub kept_from : (i : ℕ) (one : Remainder S W) → slice_get kept' i ≡ Some one → (slice_get kept i ≡ Some one)
        ⊎ (IsEnding rest end None × (one.state ≡ s) × (one.rest.items ≡ rest))
    pub handled : IsSeenTo end s rest seen' kept'

  -- what the ends of a moment leave: the same futures have a lawful order, and nothing ends by then any more
  pub record AreLeftBehind (end : ℕ) (held kept : List (Remainder S W)) : Type 0 where
    pub goes : (future : List (Operation W)) (last : ℕ) → ComesFrom (end + 1) last future →
        (AnyLawfulWith after future last kept ↔ AnyLawfulWith after future last held)
    pub ahead : AreAhead (end + 1) kept
    pub of : AreLedTo after held kept

-- when the soonest of these operations ends, and one behind this moment if none ends by then
abbrev pub end_or : ℕ → Option ℕ → ℕ
end_or last None = last + 1
end_or last (Some end) = end

-- the sooner one of two ends, the second if it is no later than this
abbrev pub sooner_end : ℕ → Option ℕ → Option ℕ → Option ℕ
sooner_end last None None = None
sooner_end last None (Some end) = cond (nat_le end last) (Some end) None
sooner_end last (Some least) None = Some least
sooner_end last (Some least) (Some end) = cond (nat_lt end least) (Some end) (Some least)

-- the later one of two moments, of which the second may not be
abbrev pub later_end : ℕ → Option ℕ → ℕ
later_end most None = most
later_end most (Some end) = max most end

module _ {W : Type 0} where
  -- of the first n of these none ends later than this
  pub record IsLatestOf (n : ℕ) (rest : List (Operation W)) (most latest : ℕ) : Type 0 where
    pub above : most ≤ latest
    pub each : (p at : ℕ) (o : Operation W) → p < n → slice_get rest p ≡ Some o → o.ends ≡ Some at → at ≤ latest

  abbrev pub soonest : ℕ → List (Operation W) → ℕ
  soonest last [] = last + 1
  soonest last (o ∷ rest) = min (end_or last o.ends) (soonest last rest)

  -- the sooner one of an end and those of the first n operations, if one is no later than this
  pub record IsSoonerOf (last n : ℕ) (rest : List (Operation W)) (least sooner : Option ℕ) : Type 0 where
    pub below : end_or last sooner ≤ end_or last least
    pub lower : (p at : ℕ) (o : Operation W) → p < n → slice_get rest p ≡ Some o → o.ends ≡ Some at →
        end_or last sooner ≤ at
    pub of : (sooner ≡ least) ⊎ ((p at : ℕ) × IsEndingAt rest at p × (at ≤ last) × (sooner ≡ Some at))

module _ {S W : Type 0} where
  abbrev pub soonest_of : ℕ → List (Remainder S W) → ℕ
  soonest_of last [] = last + 1
  soonest_of last (one ∷ held) = min (soonest last one.rest.items) (soonest_of last held)

  -- one of these has an operation that ends then
  abbrev pub HasEnd : List (Remainder S W) → ℕ → Type 0
  HasEnd held at = (i : ℕ) × (one : Remainder S W) × (p : ℕ) × (slice_get held i ≡ Some one)
      × IsEndingAt one.rest.items at p

  -- the soonest of the ends of the first n of these, if one is no later than this
  pub record IsSoonestBelow (last n : ℕ) (held : List (Remainder S W)) (end : Option ℕ) : Type 0 where
    pub lower : (i p at : ℕ) (one : Remainder S W) (o : Operation W) → i < n → slice_get held i ≡ Some one →
        slice_get one.rest.items p ≡ Some o → o.ends ≡ Some at → end_or last end ≤ at
    pub has : (at : ℕ) → end ≡ Some at → HasEnd held at × (at ≤ last)

  -- an operation of these that ends then, if there is one
  abbrev pub IsEndingIn : List (Remainder S W) → ℕ → Option (Operation W) → Type 0
  IsEndingIn held at None = ¬ HasEnd held at
  IsEndingIn held at (Some op) = IsOfOne held op × (op.ends ≡ Some at)

  -- none of these ends before this moment
  abbrev pub NoneIsOverBefore : ℕ → List (Remainder S W) → Type 0
  NoneIsOverBefore end held = (i p at : ℕ) (one : Remainder S W) (o : Operation W) → slice_get held i ≡ Some one →
      slice_get one.rest.items p ≡ Some o → o.ends ≡ Some at → end ≤ at

  -- the soonest end of these, which is no later than this
  pub record IsSoonestEnd (last : ℕ) (held : List (Remainder S W)) (end : End W) : Type 0 where
    pub by : end.at ≤ last
    pub of : IsOfOne held end.op
    pub ends : end.op.ends ≡ Some end.at
    pub first : NoneIsOverBefore end.at held

  -- of the first n of these none ends later than this
  pub record IsLatest (n : ℕ) (held : List (Remainder S W)) (most latest : ℕ) : Type 0 where
    pub above : most ≤ latest
    pub each : (i p at : ℕ) (one : Remainder S W) (o : Operation W) → i < n → slice_get held i ≡ Some one →
        slice_get one.rest.items p ≡ Some o → o.ends ≡ Some at → at ≤ latest

  -- to the first n of these an operation is added
  pub record AreTaken (n : ℕ) (op : Operation W) (old new : List (Remainder S W)) : Type 0 where
    pub long : length new ≡ length old
    pub taken : (i : ℕ) (one : Remainder S W) → i < n → slice_get old i ≡ Some one → (other : Remainder S W)
        × (slice_get new i ≡ Some other) × (other.state ≡ one.state) × (other.rest.items ≡ one.rest.items ++ op ∷ [])
    pub still : (i : ℕ) (one : Remainder S W) → n ≤ i → slice_get old i ≡ Some one → slice_get new i ≡ Some one
