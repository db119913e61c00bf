-- What is left of a log: the operations that aren't placed (this project's own).
use Rattle.std.specs.Prelude.{◌≡◌, ℕ, zero, suc, ◌+◌, ◌≤◌, nat_le, cond, List, [], ◌∷◌, ◌++◌, map, slice_get}
use Rattle.std.specs.Prelude.{◌⊎◌, Option, None, Some}
use Rattle.object_core.specs.declared.operation.Operation.{Operation}
use Rattle.object_core.specs.Logs.{IsLinearizable}
use Rattle.object_sweep.specs.Rests.{RunForwards}
use Rattle.object_watch.specs.declared.remainder.Remainder.{Remainder}

-- all but the entry at this place
abbrev pub removed : {X : Type 0} → ℕ → List X → List X
removed q [] = []
removed zero (x ∷ xs) = xs
removed (suc q) (x ∷ xs) = x ∷ removed q xs

-- an end that comes later isn't known
abbrev pub known_end : ℕ → Option ℕ → Option ℕ
known_end last None = None
known_end last (Some end) = cond (nat_le end last) (Some end) None

-- an operation as it is known at a moment
abbrev pub known : {W : Type 0} → ℕ → Operation W → Operation W
known last o = record { starts = o.starts; ends = known_end last o.ends; maybe = o.maybe; what = o.what }

module _ {W : Type 0} where
  -- no operation ends before this moment, or before it began
  pub record IsAhead (end : ℕ) (rest : List (Operation W)) : Type 0 where
    pub ends : (p at : ℕ) (o : Operation W) → slice_get rest p ≡ Some o → o.ends ≡ Some at → end ≤ at
    pub forwards : RunForwards rest

  -- what begins at this moment or later, as it is known at a moment no earlier than the one before
  pub record ComesFrom (moment last : ℕ) (future : List (Operation W)) : Type 0 where
    pub later : moment ≤ last + 1
    pub begins : (i : ℕ) (o : Operation W) → slice_get future i ≡ Some o → moment ≤ o.starts
    pub forwards : RunForwards future

  -- it is an operation of the log
  abbrev pub IsOneOfLog : List (Operation W) → Operation W → Type 0
  IsOneOfLog log o = (i : ℕ) × (slice_get log i ≡ Some o)

module _ {S W : Type 0} where
  -- no operation of these ends before this moment, or before it began
  abbrev pub AreAhead : ℕ → List (Remainder S W) → Type 0
  AreAhead end held = (i : ℕ) (one : Remainder S W) → slice_get held i ≡ Some one → IsAhead end one.rest.items

  -- it is an operation of one of these
  abbrev pub IsOfOne : List (Remainder S W) → Operation W → Type 0
  IsOfOne held o = (i : ℕ) × (one : Remainder S W) × (slice_get held i ≡ Some one) × IsOneOfLog one.rest.items o

  -- no other state is held than before, at its place, and of operations at most this one came
  pub record AreHeldWith (op : Operation W) (old new : List (Remainder S W)) : Type 0 where
    pub states : (i : ℕ) (one : Remainder S W) → slice_get new i ≡ Some one →
        (other : Remainder S W) × (slice_get old i ≡ Some other) × (one.state ≡ other.state)
    pub operations : (o : Operation W) → IsOfOne new o → IsOfOne old o ⊎ (o ≡ op)

module _ {S W : Type 0} (after : S → W → Option S) (held : List (Remainder S W)) where
  -- the state of one of these, or a state to which operations of theirs lead from there
  pub data IsLedTo : S → Type 0 where
    Held : (i : ℕ) (one : Remainder S W) → slice_get held i ≡ Some one → IsLedTo one.state
    Leads : (s t : S) (o : Operation W) → IsLedTo s → IsOfOne held o → after s o.what ≡ Some t → IsLedTo t

  -- these hold no other states and operations
  pub record AreLedTo (new : List (Remainder S W)) : Type 0 where
    pub states : (i : ℕ) (one : Remainder S W) → slice_get new i ≡ Some one → IsLedTo one.state
    pub operations : (o : Operation W) → IsOfOne new o → IsOfOne held o

module _ {S W : Type 0} (after : S → W → Option S) (future : List (Operation W)) (last : ℕ) where
  -- from this state what is left has a lawful order with this future, as both are known at last
  abbrev pub IsLawfulWith : S → List (Operation W) → Type 0
  IsLawfulWith s rest = IsLinearizable after s (map (known last) (rest ++ future))

  -- one of these has
  abbrev pub AnyLawfulWith : List (Remainder S W) → Type 0
  AnyLawfulWith held = (i : ℕ) × (one : Remainder S W) × (slice_get held i ≡ Some one)
      × IsLawfulWith one.state one.rest.items
