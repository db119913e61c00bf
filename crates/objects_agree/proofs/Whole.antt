-- Lawful orders, both ways.
use Rattle.std.proofs.Common.{◌≡◌, ℕ, zero, suc, ◌≤◌, Bool, true, List, [], ◌∷◌, take, slice_get, option_and_then}
use Rattle.std.proofs.Common.{Option, None, Some, IsSome, refl, sym, ◌∙◌, ap, subst, arith, ◌⊎◌, inl, inr, ◌↔◌}
use Rattle.std.proofs.lemmas.Bool.Decides.{nat_tests}
use Rattle.std.proofs.lemmas.Option.{same_Some, slice_get_within}
use Rattle.history_core.proofs.Counts.{of_one_term}
use Rattle.history_core.proofs.Listed.{keeps_from_none, NoneBackFrom}
use Rattle.history_core.proofs.Listing.{times_cases}
use Rattle.history_core.specs.declared.history.Kind.{Kind}
use Rattle.history_core.specs.declared.history.Kind.TheVariants.{Write, Read, Refused}
use Rattle.history_core.specs.declared.history.Op.{Op}
use Rattle.history_core.specs.declared.history.Term.{Term}
use Rattle.history_core.specs.declared.history.Verdict.TheVariants.{Lawful}
use Rattle.history_core.specs.Orders.{in_term, IsAtomicOrder, IsVerdict, KeepsLimit, latest, listed_at, MayStand, ReadsRight}
use Rattle.history_core.specs.Orders.{RefusesLawfully, times_of}
use Rattle.object_core.specs.Logs.{IsLawfulOrder, IsLinearizable}
use Rattle.object_registers.specs.Registers.{limited_after}
use Rattle.objects_agree.specs.Agreement.{accesses, can_stand_at, HaveRecords, those_that_stand}
use Rattle.objects_agree.proofs.Back.{listing_back, precedence_back, precedence_kept, steps_back}
use Rattle.objects_agree.proofs.Steps.{Follows}
use Rattle.objects_agree.proofs.There.{listing_there, precedence_there, steps_there}

-- what an order lists has a record, and so has all that ended
read_right : (item : Option ℕ) (kind : Kind) (before : Option ℕ) → ReadsRight (λ x y. x ≡ y) kind item before → IsSome item
read_right (Some x) kind before h = refl
read_right None Write before h = h
read_right None Read before h = absurd h
read_right None Refused before h = absurd h

stands_once : (ends : Option ℕ) (kind : Kind) (times : ℕ) → IsSome ends → MayStand ends kind times → times ≡ 1
stands_once (Some end) kind times s h = h
stands_once None kind times s h = cc

pub have_records : (opening : ℕ) (ops : List (Op ℕ)) (order : List ℕ) → IsAtomicOrder (λ x y. x ≡ y) opening ops order → HaveRecords ops
have_records opening ops order h p o at ended = by_place (times_cases p order)
  where
    once : times_of p order ≡ 1
    once =
        let may = h.listing.stands p o (omega arith) (slice_get_within ops p o at) at in
        stands_once o.ends o.kind (times_of p order) ended may

    by_place : ((i : ℕ) × (slice_get order i ≡ Some p)) ⊎ (times_of p order ≡ 0) → IsSome o.item
    by_place (inl i) =
        let listed : listed_at ops order i.0 ≡ Some o = ap (option_and_then (slice_get ops)) i.1 ∙ at in
        read_right o.item o.kind (latest opening ops (take i.0 order)) (h.reading i.0 o listed)
    by_place (inr z) = absurd (omega (arith, z, once))

-- the one term, and its limit over all places
abbrev pub term : ℕ → Term
term limit = record { first = 0; limit = limit }

within : (limit p : ℕ) → in_term (term limit) [] p ≡ true
within limit p = grind (arith, nat_tests)

module _ (ops : List (Op ℕ)) (limit : ℕ) (order : List ℕ) where
  of_term : RefusesLawfully (term limit ∷ []) ops order → KeepsLimit (λ _. true) limit ops order
  of_term h i p o e f r w =
      let P : ℕ → Type 0 = λ n. limit ≤ n in
      subst P (of_one_term limit ops (take i order)) (h 0 (term limit) refl i p o e f r (within limit p))

  pub to_term : KeepsLimit (λ _. true) limit ops order → RefusesLawfully (term limit ∷ []) ops order
  to_term h zero t e =
      let P : Term → Type 0 = λ z. KeepsLimit (in_term z []) z.limit ops order in
      subst P (same_Some (term limit) t e) one
    where
      one : KeepsLimit (in_term (term limit) []) limit ops order
      one i p o f g r w =
          let P : ℕ → Type 0 = λ n. limit ≤ n in
          subst P (sym (of_one_term limit ops (take i order))) (h i p o f g r refl)
  to_term h (suc k) t e = cc

module _ (opening limit : ℕ) (ops : List (Op ℕ)) where
  pub there : (order : List ℕ) → IsVerdict (λ x y. x ≡ y) opening (term limit ∷ []) ops order Lawful →
      IsLawfulOrder limited_after (record { held = opening; due = limit }) (accesses opening ops) order
  there order h = record {
    listing = listing_there opening ops order h.0.listing;
    precedence = precedence_there opening ops order h.0.precedence;
    steps = steps_there opening ops order opening limit follows;
  }
    where
      follows : Follows ops opening limit order
      follows = record {
        places = h.0.listing.places;
        reading = h.0.reading;
        limited = of_term ops limit order h.1;
      }

  pub back : (order : List ℕ) → HaveRecords ops →
      IsLawfulOrder limited_after (record { held = opening; due = limit }) (accesses opening ops) order →
      IsVerdict (λ x y. x ≡ y) opening (term limit ∷ []) ops (those_that_stand ops order) Lawful
  back order records h = (
    record {
      listing = record { places = follows.places; stands = λ p o _ _ at. listing_back opening ops order records h.listing p o at };
      precedence = keeps_from_none ops kept none_back;
      reading = follows.reading;
    },
    to_term ops limit kept follows.limited,
  )
    where
      kept : List ℕ
      kept = those_that_stand ops order

      none_back : NoneBackFrom ops kept 0
      none_back =
          let stands : ℕ → Bool = λ q. can_stand_at (slice_get ops q) in
          precedence_back opening ops kept (precedence_kept stands (accesses opening ops) order h.precedence)

      follows : Follows ops opening limit kept
      follows = steps_back opening ops order (record { held = opening; due = limit }) h.steps

  pub whole : ((order : List ℕ) × IsVerdict (λ x y. x ≡ y) opening (term limit ∷ []) ops order Lawful) ↔
      (HaveRecords ops × IsLinearizable limited_after (record { held = opening; due = limit }) (accesses opening ops))
  whole = (
    λ h. (have_records opening ops h.0 h.1.0, (h.0, there h.0 h.1)),
    λ h.
        (those_that_stand ops h.1.0, back h.1.0 h.0 h.1.1),
  )
