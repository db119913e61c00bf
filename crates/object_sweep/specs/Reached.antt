-- Configurations, after G. Lowe, Testing for Linearizability, Concurrency and Computation: Practice and Experience 29,
-- 2017: which of the operations under way are placed, and the state that the placed ones lead to.
use Rattle.std.specs.Prelude.{◌≡◌, ◌≢◌, ℕ, ◌<◌, Bool, true, false, ◌||◌, not, nat_eq, List, [], ◌∷◌, ◌++◌, length}
use Rattle.std.specs.Prelude.{slice_get, Option, Some}
use Rattle.std.specs.Prelude.{◌⊎◌}
use Rattle.std.specs.List.{list_all, list_any, filter}
use Rattle.object_core.specs.declared.operation.Operation.{Operation}
use Rattle.object_sweep.specs.declared.configuration.Configuration.{Configuration}
use Rattle.object_sweep.specs.Rests.{CanPlace, NoOpenEndBefore}

abbrev pub is_in : ℕ → List ℕ → Bool
is_in place places = list_any (λ other. nat_eq other place) places

abbrev pub without : ℕ → List ℕ → List ℕ
without place places = filter (λ other. not (nat_eq other place)) places

-- all of these are among the others
abbrev pub is_within : List ℕ → List ℕ → Bool
is_within places others = list_all (λ place. is_in place others) places

-- what may not be placed any more: what has ended, and what is placed
abbrev pub is_closed : List ℕ → List ℕ → ℕ → Bool
is_closed ended placed q = is_in q ended || is_in q placed

module _ {W : Type 0} where
  -- behind these ends that of the operation at this place is the next
  abbrev pub IsNextEnd : List (Operation W) → List ℕ → ℕ → ℕ → Type 0
  IsNextEnd log ended place end =
      (o : Operation W) × (slice_get log place ≡ Some o) × (o.ends ≡ Some end) × (is_in place ended ≡ false)
      × NoOpenEndBefore log (λ q. is_in q ended) end

  -- the operation at this place may have done nothing
  abbrev pub MayBeLeftOut : List (Operation W) → ℕ → Type 0
  MayBeLeftOut log place = (o : Operation W) × (slice_get log place ≡ Some o) × (o.maybe ≡ true)

-- behind these ends the state s is reached, with these placed of the operations that haven't ended
pub data IsReachable {S W : Type 0} (after : S → W → Option S) (opening : S) (log : List (Operation W)) : List ℕ →
    S → List ℕ → Type 0 where
  Opens : IsReachable after opening log [] opening []
  -- before the next end one more operation is placed, which began by then
  Places : (ended placed : List ℕ) (s : S) → IsReachable after opening log ended s placed → (place end q : ℕ) (t : S) →
      IsNextEnd log ended place end → CanPlace after log (is_closed ended placed) end s q t →
      IsReachable after opening log ended t (placed ++ q ∷ [])
  -- the next operation ends, which is placed or left out
  Ends : (ended placed : List ℕ) (s : S) → IsReachable after opening log ended s placed → (place end : ℕ) →
      IsNextEnd log ended place end → (is_in place placed ≡ true) ⊎ MayBeLeftOut log place →
      IsReachable after opening log (place ∷ ended) s (without place placed)

module _ {S : Type 0} where
  -- a configuration has this state, and has placed these
  abbrev pub IsSameAs : Configuration S → S → List ℕ → Type 0
  IsSameAs one state placed =
      (one.state ≡ state) × (is_within one.placed.items placed ≡ true) × (is_within placed one.placed.items ≡ true)

  -- one of these has this state, and has placed these
  abbrev pub IsHeld : List (Configuration S) → S → List ℕ → Type 0
  IsHeld held state placed = (i : ℕ) × (one : Configuration S) × (slice_get held i ≡ Some one)
      × IsSameAs one state placed

  -- no two of these are the same
  abbrev pub AreApart : List (Configuration S) → Type 0
  AreApart held = (i j : ℕ) (one other : Configuration S) → slice_get held i ≡ Some one →
      slice_get held j ≡ Some other → i ≢ j →
      ¬ IsSameAs one other.state other.placed.items

module _ {S W : Type 0} where
  -- each of these is reached behind these ends
  abbrev pub AreReachable : (S → W → Option S) → S → List (Operation W) → List ℕ → List (Configuration S) → Type 0
  AreReachable after opening log ended held = (i : ℕ) (one : Configuration S) → slice_get held i ≡ Some one →
      IsReachable after opening log ended one.state one.placed.items

  -- the log is lost at the end of the operation at this place: before it something is reached, and behind it nothing is
  pub record IsLostAt (after : S → W → Option S) (opening : S) (log : List (Operation W)) (place : ℕ) : Type 0 where
    pub ended : List ℕ
    pub end : ℕ
    pub next : IsNextEnd log ended place end
    pub before : (s : S) × (placed : List ℕ) × IsReachable after opening log ended s placed
    pub behind : (s : S) (placed : List ℕ) → ¬ IsReachable after opening log (place ∷ ended) s placed

  -- at the end of the operation at this place more configurations than the budget are reached, before it or behind it
  pub record AreTooMany (after : S → W → Option S) (opening : S) (log : List (Operation W))
      (budget place : ℕ) : Type 0 where
    pub ended : List ℕ
    pub end : ℕ
    pub next : IsNextEnd log ended place end
    pub held : List (Configuration S)
    pub more : budget < length held
    pub apart : AreApart held
    pub reached : AreReachable after opening log ended held ⊎ AreReachable after opening log (place ∷ ended) held
