-- Two orders, one after the other, are one order of both parts, and it is atomic. A place of one part is not one of the
-- other; the second part's entries stand behind the first's and none of them precedes those; and the second part opens with
-- what the first leaves.
use Rattle.std.proofs.Common.{◌≡◌, ◌≢◌, ℕ, ◌<◌, List, [], ◌∷◌, ◌++◌, length, take, slice_get, Option, Some, arith, refl, sym, subst, ◌∙◌}
use Rattle.std.proofs.Common.{ap, inl, inr, suc, length-append}
use Rattle.std.specs.List.{fold}
use Rattle.std.proofs.lemmas.List.Sums.{fold-append}
use Rattle.std.proofs.lemmas.Option.{slice_get_within}
use Rattle.history_core.specs.declared.history.Op.{Op}
use Rattle.history_core.specs.Joined.{order_after, StaysBehind}
use Rattle.history_core.specs.Orders.{IsAtomicOrder, IsListing, KeepsPrecedence, latest, left_at, ListsPlaces, MayStand, ReadsLatest}
use Rattle.history_core.specs.Orders.{ReadsRight, times_of}
use Rattle.history_core.proofs.JoinedPlaces.{entry_cases, get_cases, listed_cases, listed_place, taken, take_after, take_before}
use Rattle.history_core.proofs.JoinedPlaces.{times_after, times_before}
use Rattle.history_core.proofs.Places.{get_after, get_before}

module _ {R : Type 0} where
  pub places_joined : (ops later : List (Op R)) (order after : List ℕ) → ListsPlaces ops order → ListsPlaces later after →
      ListsPlaces (ops ++ later) (order ++ order_after (length ops) after)
  places_joined ops later order after h k i p e = elim (entry_cases (length ops) order after i p e) [
    | inl w ↦ let l = h i p w.1 in omega (arith, length-append ops later)
    | inr w ↦ let l = k w.0 w.1 w.4 in let s = w.3 in omega (arith, length-append ops later)
  ]

  pub listing_joined : (ops later : List (Op R)) (order after : List ℕ) → IsListing ops order → IsListing later after →
      IsListing (ops ++ later) (order ++ order_after (length ops) after)
  listing_joined ops later order after h k = record {
    places = places_joined ops later order after h.places k.places;
    stands = λ p o from to e. elim (get_cases ops later p o e) [
      | inl w ↦
          subst (λ n. MayStand o.ends o.kind n) (sym (times_before (length ops) order after p w.0)) (h.stands p o (omega arith) w.0 w.1)
      | inr w ↦
          let l = slice_get_within later w.0 o w.2 in
          let times : times_of p (order ++ order_after (length ops) after) ≡ times_of w.0 after =
          ap (λ q. times_of q (order ++ order_after (length ops) after)) w.1 ∙ times_after (length ops) order after w.0 h.places in
          subst (λ n. MayStand o.ends o.kind n) (sym times) (k.stands w.0 o (omega arith) l w.2)
    ];
  }

  pub precedence_joined : (ops later : List (Op R)) (order after : List ℕ) → ListsPlaces ops order → KeepsPrecedence ops order →
      KeepsPrecedence later after → StaysBehind later ops → KeepsPrecedence (ops ++ later) (order ++ order_after (length ops) after)
  precedence_joined ops later order after places h k behind i j a b ai bj ne pre =
      elim (listed_cases ops later order after i a places ai) [
        | inl x ↦ elim (listed_cases ops later order after j b places bj) [
          | inl y ↦ h i j a b x.1 y.1 ne pre
          | inr y ↦ let e = y.1 in let l = x.0 in omega arith
        ]
        | inr x ↦ elim (listed_cases ops later order after j b places bj) [
          | inl y ↦
              let p = listed_place ops order j b y.1 in
              let q = listed_place later after x.0 a x.2 in
              absurd (behind p.0 q.0 b a p.2 q.2 pre)
          | inr y ↦
              let ex = x.1 in
              let ey = y.1 in
              let other : x.0 ≢ y.0 = λ s. ne (omega arith) in
              let l : x.0 < y.0 = k x.0 y.0 a b x.2 y.2 other pre in
              omega arith
        ]
      ]

  -- entries of the first part leave what they leave by themselves
  left_agree : (ops later : List (Op R)) (r : Option R) (order : List ℕ) → ListsPlaces ops order →
      fold (λ x p. left_at x (slice_get (ops ++ later) p)) r order ≡ fold (λ x p. left_at x (slice_get ops p)) r order
  left_agree ops later r [] places = refl
  left_agree ops later r (p ∷ order) places =
      ap (λ o. fold (λ x q. left_at x (slice_get (ops ++ later) q)) (left_at r o) order) (get_before ops later p (places 0 p refl))
      ∙ left_agree ops later (left_at r (slice_get ops p)) order (λ i q e. places (suc i) q e)

  -- and so do those of the second
  left_moved : (ops later : List (Op R)) (r : Option R) (after : List ℕ) → fold (λ x p. left_at x (slice_get (ops ++ later) p)) r
      (order_after (length ops) after) ≡ fold (λ x p. left_at x (slice_get later p)) r after
  left_moved ops later r [] = refl
  left_moved ops later r (p ∷ after) =
      ap (λ o. fold (λ x q. left_at x (slice_get (ops ++ later) q)) (left_at r o) (order_after (length ops) after)) (get_after ops later p)
      ∙ left_moved ops later (left_at r (slice_get later p)) after

  pub latest_joined : (opening next : R) (ops later : List (Op R)) (order after : List ℕ) → ListsPlaces ops order → latest opening ops order
      ≡ Some next → latest opening (ops ++ later) (order ++ order_after (length ops) after) ≡ latest next later after
  latest_joined opening next ops later order after places held =
      fold-append (λ x p. left_at x (slice_get (ops ++ later) p)) (Some opening) order (order_after (length ops) after)
      ∙ ap (λ r. fold (λ x p. left_at x (slice_get (ops ++ later) p)) r (order_after (length ops) after))
      (left_agree ops later (Some opening) order places ∙ held)
      ∙ left_moved ops later (Some next) after

  pub reading_joined : (Same : R → R → Type 0) (opening next : R) (ops later : List (Op R)) (order after : List ℕ) → ListsPlaces ops order →
      ReadsLatest Same opening ops order → ReadsLatest Same next later after → latest opening ops order ≡ Some next →
      ReadsLatest Same opening (ops ++ later) (order ++ order_after (length ops) after)
  reading_joined Same opening next ops later order after places h k held i o oi =
      elim (listed_cases ops later order after i o places oi) [
        | inl w ↦
            let e : latest opening (ops ++ later) (take i (order ++ order_after (length ops) after)) ≡ latest opening ops (take i order) =
            ap (latest opening (ops ++ later)) (take_before (length ops) order after i w.0)
            ∙ left_agree ops later (Some opening) (take i order) (λ n q t. places n q (taken i order n q t)) in
            subst (λ r. ReadsRight Same o.kind o.item r) (sym e) (h i o w.1)
        | inr w ↦
            let e : latest opening (ops ++ later) (take i (order ++ order_after (length ops) after)) ≡ latest next later (take w.0 after) =
            ap (λ n. latest opening (ops ++ later) (take n (order ++ order_after (length ops) after))) w.1
            ∙ ap (latest opening (ops ++ later)) (take_after (length ops) order after w.0)
            ∙ latest_joined opening next ops later order (take w.0 after) places held in
            subst (λ r. ReadsRight Same o.kind o.item r) (sym e) (k w.0 o w.2)
      ]

  pub atomic_joined : (Same : R → R → Type 0) (opening next : R) (ops later : List (Op R)) (order after : List ℕ) →
      IsAtomicOrder Same opening ops order → IsAtomicOrder Same next later after → latest opening ops order ≡ Some next →
      StaysBehind later ops → IsAtomicOrder Same opening (ops ++ later) (order ++ order_after (length ops) after)
  atomic_joined Same opening next ops later order after h k held behind = record {
    listing = listing_joined ops later order after h.listing k.listing;
    precedence = precedence_joined ops later order after h.listing.places h.precedence k.precedence behind;
    reading = reading_joined Same opening next ops later order after h.listing.places h.reading k.reading held;
  }
