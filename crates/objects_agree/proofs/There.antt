-- From an order that is lawful for the history to the log.
use Rattle.std.proofs.Common.{◌≡◌, ℕ, ◌&&◌, false, not, List, [], ◌∷◌, slice_get, option_and_then}
use Rattle.std.proofs.Common.{Option, None, Some, is_some, suc, sym, ◌∙◌, ap, subst, arith, inl, inr, ◌⊎◌}
use Rattle.std.proofs.lemmas.Option.{slice_get_within}
use Rattle.history_core.proofs.Listing.{times_cases}
use Rattle.history_core.specs.declared.history.Kind.{Kind}
use Rattle.history_core.specs.declared.history.Kind.TheVariants.{Write, Read, Refused}
use Rattle.history_core.specs.declared.history.Op.{Op}
use Rattle.history_core.specs.Orders as history
use Rattle.history_core.specs.Orders.{listed_at, times_of}
use Rattle.object_core.specs.declared.operation.Operation.{Operation}
use Rattle.object_core.specs.Logs as object
use Rattle.object_core.specs.Logs.{CanMake, is_due, NonePrecedes}
use Rattle.object_registers.specs.declared.limited.Access.{Access}
use Rattle.object_registers.specs.Registers.{limited_after}
use Rattle.objects_agree.specs.Agreement.{access_of, accesses, as_operation}
use Rattle.objects_agree.proofs.Places.{at_back, at_there}
use Rattle.objects_agree.proofs.Steps.{due_by, Follows, follows_first, held_by, step_there}

-- how often an operation stands
may_there : (ends : Option ℕ) (kind : Kind) (times : ℕ) → history.MayStand ends kind times →
    object.MayStand (is_some ends && not false) times
may_there (Some end) kind times h = h
may_there None Write times h = h
may_there None Read times h = omega (arith, h)
may_there None Refused times h = omega (arith, h)

module _ (opening : ℕ) (ops : List (Op ℕ)) where
  pub listing_there : (order : List ℕ) → history.IsListing ops order → object.IsListing (accesses opening ops) order
  listing_there order h p a at =
      let w = at_back (as_operation (access_of opening)) ops p a at in
      let P : Operation Access → Type 0 = λ z. object.MayStand (is_due z) (times_of p order) in
      let stands = h.stands p w.0 (omega arith) (slice_get_within ops p w.0 w.1) w.1 in
      subst P w.2 (may_there w.0.ends w.0.kind (times_of p order) stands)

  pub precedence_there : (order : List ℕ) → history.KeepsPrecedence ops order → object.KeepsPrecedence (accesses opening ops) order
  precedence_there [] h = tt
  precedence_there (p ∷ rest) h = (
    first,
    precedence_there rest (λ i j a b ia jb ne pre. (let l = h (suc i) (suc j) a b ia jb (λ e. ne (omega (arith, e))) pre in
        omega (arith, l))),
  )
    where
      first : NonePrecedes (accesses opening ops) rest p
      first q a b stood qa pb pre = by_place (times_cases q rest)
        where
          by_place : ((i : ℕ) × (slice_get rest i ≡ Some q)) ⊎ (times_of q rest ≡ 0) → ⊥
          by_place (inl i) =
              let v = at_back (as_operation (access_of opening)) ops q a qa in
              let w = at_back (as_operation (access_of opening)) ops p b pb in
              let P : Operation Access → Type 0 = λ z. object.Precedes z b in
              let Q : Operation Access → Type 0 = λ z. object.Precedes (as_operation (access_of opening) v.0) z in
              let before : history.Precedes v.0 w.0 = subst Q (sym w.2) (subst P (sym v.2) pre) in
              let listed : listed_at ops rest i.0 ≡ Some v.0 = ap (option_and_then (slice_get ops)) i.1 ∙ v.1 in
              let l = h (suc i.0) 0 v.0 w.0 listed w.1 (λ e. omega (arith, e)) before in
              omega (arith, l)
          by_place (inr z) = omega (arith, z, stood)

  pub steps_there : (order : List ℕ) (held due : ℕ) → Follows ops held due order →
      CanMake limited_after (accesses opening ops) (record { held = held; due = due }) order
  steps_there [] held due f = tt
  steps_there (p ∷ rest) held due f =
      let w = follows_first ops p rest held due f in (
        as_operation (access_of opening) w.0,
        record { held = held_by held w.0.item w.0.kind; due = due_by due w.0.kind },
        at_there (as_operation (access_of opening)) ops p w.0 w.1,
        step_there opening held due w.0.item w.0.kind w.2,
        steps_there rest (held_by held w.0.item w.0.kind) (due_by due w.0.kind) w.3,
      )
