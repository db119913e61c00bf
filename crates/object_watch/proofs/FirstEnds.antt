-- The first end of a log, by what is left of the log behind it.
use Rattle.std.proofs.Common.{◌≡◌, ℕ, ◌+◌, ◌<◌, ◌≤◌, true, false, nat_eq, List, [], ◌∷◌, length, map}
use Rattle.std.proofs.Common.{slice_get, Option, Some, refl, ◌↔◌, ◌⊎◌, inl, inr, arith}
use Rattle.std.proofs.lemmas.Bool.{cases_lt}
use Rattle.std.proofs.lemmas.List.{length-map}
use Rattle.history_core.specs.Orders.{times_of}
use Rattle.object_core.specs.declared.operation.Operation.{Operation}
use Rattle.object_core.specs.Logs.{IsLawfulOrder, IsLinearizable}
use Rattle.object_sweep.specs.Rests.{CanFinish, CanPlace, IsRest, RunForwards}
use Rattle.object_sweep.proofs.Placed.{complete_tail, dropped}
use Rattle.object_sweep.proofs.Whole.{one_end, opened}
use Rattle.object_watch.specs.Remainders.{removed}
use Rattle.object_watch.proofs.Removing.{down, lowered, removed_rest, rest_removed, shut_out}

module _ {S W : Type 0} (after : S → W → Option S) where
  -- an operation that began by then is placed, and what is left is a log
  abbrev pub PlacesOne : List (Operation W) → ℕ → S → Type 0
  PlacesOne log end s = (q : ℕ) × (a : Operation W) × (t : S) × (slice_get log q ≡ Some a) × (a.starts ≤ end)
      × (after s a.what ≡ Some t) × IsLinearizable after t (removed q log)

  pub first_end : (log : List (Operation W)) (end p : ℕ) (o : Operation W) (s : S) → RunForwards log →
      ((r at : ℕ) (a : Operation W) → slice_get log r ≡ Some a → a.ends ≡ Some at → end ≤ at) →
      slice_get log p ≡ Some o → o.ends ≡ Some end →
      (IsLinearizable after s log ↔ (((o.maybe ≡ true) × IsLinearizable after s (removed p log)) ⊎ PlacesOne log end s))
  first_end log end p o s forwards last at ends = (
    λ h. onward (exact.0 ((opened after s log).1 h)),
    λ h. (opened after s log).0 (exact.1 (back h)),
  )
    where
      Left : Type 0
      Left = (o.maybe ≡ true) × CanFinish after log (λ r. nat_eq r p) s

      Placed : Type 0
      Placed = (q : ℕ) × (t : S) × CanPlace after log (λ r. false) end s q t × CanFinish after log (λ r. nat_eq r q) t

      exact : CanFinish after log (λ r. false) s ↔ (Left ⊎ Placed)
      exact = one_end after log (λ r. false) end p o s forwards (λ r n a e ra an. last r n a ra an) at ends refl

      onward : Left ⊎ Placed → ((o.maybe ≡ true) × IsLinearizable after s (removed p log)) ⊎ PlacesOne log end s
      onward (inl h) = inl (h.0, removed_rest after log p s h.1)
      onward (inr (q, t, can, h)) = inr (q, can.0, t, can.1, can.3, can.4, removed_rest after log q t h)

      back : ((o.maybe ≡ true) × IsLinearizable after s (removed p log)) ⊎ PlacesOne log end s → Left ⊎ Placed
      back (inl h) = inl (h.0, rest_removed after log p s h.1)
      back (inr (q, a, t, qa, began, step, h)) = inr (q, t, (a, qa, refl, began, step), rest_removed after log q t h)

  -- the same of one order: it leaves as long a one, or a shorter one
  abbrev pub OrderOut : List (Operation W) → ℕ → Operation W → S → List ℕ → Type 0
  OrderOut log p o s order = (o.maybe ≡ true) × (left : List ℕ) × IsLawfulOrder after s (removed p log) left
      × (length left ≡ length order)

  abbrev pub OrderPlaced : List (Operation W) → ℕ → S → List ℕ → Type 0
  OrderPlaced log end s order = (q : ℕ) × (a : Operation W) × (t : S) × (slice_get log q ≡ Some a) × (a.starts ≤ end)
      × (after s a.what ≡ Some t) × (left : List ℕ) × IsLawfulOrder after t (removed q log) left × (length left + 1 ≡ length order)

  pub first_end_order : (log : List (Operation W)) (end p : ℕ) (o : Operation W) (s : S) → RunForwards log → slice_get log p ≡ Some o →
      o.ends ≡ Some end → (order : List ℕ) → IsLawfulOrder after s log order → OrderOut log p o s order ⊎ OrderPlaced log end s order
  first_end_order log end p o s forwards at ends order h = elim (cases_lt 0 (times_of p order)) [
    | inl stands ↦ inr (placed order rest stands)
    | inr le ↦
        let none : times_of p order ≡ 0 = omega (arith, le) in
        inl (
          (dropped after log (λ r. false) p end o at ends s order rest none refl).0,
          map (down p) order,
          lowered after log p s order (shut_out after log p s order h none),
          length-map order (down p),
        )
  ]
    where
      rest : IsRest after log (λ r. false) s order
      rest = record { listing = h.listing; precedence = h.precedence; steps = h.steps }

      placed : (xs : List ℕ) → IsRest after log (λ r. false) s xs → 0 < times_of p xs → OrderPlaced log end s xs
      placed [] r l = let z : times_of p [] ≡ 0 = refl in absurd (omega (arith, l, z))
      placed (q ∷ xs) r l =
          let c = complete_tail after log forwards (λ r. false) end p o at ends s q xs r l in
          let long : length (map (down q) xs) ≡ length xs = length-map xs (down q) in
          (q, c.1.0, c.0, c.1.1, c.1.3, c.1.4, map (down q) xs, lowered after log q c.0 xs c.2, omega (arith, long))
