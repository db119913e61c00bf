-- Where more than one configuration is too many, two of those that are held differ.
use Rattle.std.proofs.Common.{◌≡◌, ℕ, ◌<◌, true, List, [], ◌∷◌, length, slice_get}
use Rattle.std.proofs.Common.{Option, Some, refl, arith, ◌⊎◌, inl, inr}
use Rattle.object_core.specs.declared.operation.Operation.{Operation}
use Rattle.object_sweep.specs.declared.configuration.Configuration.{Configuration}
use Rattle.object_sweep.specs.Reached.{AreApart, AreReachable, AreTooMany, is_within, IsReachable}

module _ {S W : Type 0} (after : S → W → Option S) (opening : S) (log : List (Operation W)) where
  -- two that are reached behind these ends, and differ
  abbrev TwoDiffer : List ℕ → Type 0
  TwoDiffer ended = (placed others : List ℕ) × (s t : S) × IsReachable after opening log ended s placed
      × IsReachable after opening log ended t others
      × ((s ≡ t) → is_within placed others ≡ true → is_within others placed ≡ true → ⊥)

  two_of : (ended : List ℕ) (held : List (Configuration S)) → 1 < length held → AreApart held →
      AreReachable after opening log ended held → TwoDiffer ended
  two_of ended [] more apart reached = absurd (omega arith)
  two_of ended (x ∷ []) more apart reached = absurd (omega arith)
  two_of ended (x ∷ y ∷ rest) more apart reached = (
    x.placed.items,
    y.placed.items,
    x.state,
    y.state,
    reached 0 x refl,
    reached 1 y refl,
    λ same there back. apart 0 1 x y refl refl (λ e. absurd (omega (arith, e))) (same, there, back),
  )

pub two_differ : {S W : Type 0} (after : S → W → Option S) (opening : S) (log : List (Operation W)) (budget place : ℕ) →
    0 < budget → AreTooMany after opening log budget place →
    (o : Operation W) × (end : ℕ) × (slice_get log place ≡ Some o) × (o.ends ≡ Some end)
    × (ended placed others : List ℕ) × (s t : S) × IsReachable after opening log ended s placed
    × IsReachable after opening log ended t others
    × ((s ≡ t) → is_within placed others ≡ true → is_within others placed ≡ true → ⊥)
two_differ after opening log budget place some h = let two = by_side h.reached in (
  h.next.0,
  h.end,
  h.next.1,
  h.next.2,
  two.0,
  two.1.0,
  two.1.1,
  two.1.2,
  two.1.3,
  two.1.4,
  two.1.5,
  two.1.6,
)
  where
    more : 1 < length h.held
    more = omega (arith, h.more, some)

    by_side : AreReachable after opening log h.ended h.held ⊎ AreReachable after opening log (place ∷ h.ended) h.held →
        (ended : List ℕ) × TwoDiffer after opening log ended
    by_side (inl r) = (h.ended, two_of after opening log h.ended h.held more h.apart r)
    by_side (inr r) = (place ∷ h.ended, two_of after opening log (place ∷ h.ended) h.held more h.apart r)
