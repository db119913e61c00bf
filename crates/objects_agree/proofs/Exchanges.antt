-- A log of sets and gets: without a refused write the two registers make the same steps.
use Rattle.std.proofs.Common.{◌≡◌, ℕ, ◌-◌, Bool, true, false, cond, nat_eq, List, [], ◌∷◌, map, slice_get, Option, None}
use Rattle.std.proofs.Common.{Some, refl, sym, ◌∙◌, ap, subst, arith, ◌↔◌}
use Rattle.std.proofs.lemmas.Option.{same_Some}
use Rattle.history_core.specs.declared.history.Kind.{Kind}
use Rattle.history_core.specs.declared.history.Kind.TheVariants.{Write, Read, Refused}
use Rattle.history_core.specs.declared.history.Op.{Op}
use Rattle.history_core.specs.declared.history.Verdict.TheVariants.{Lawful}
use Rattle.history_core.specs.Orders.{IsVerdict, RefusesLawfully, times_of}
use Rattle.object_core.specs.declared.operation.Operation.{Operation}
use Rattle.object_core.specs.Logs.{CanMake, is_due, IsLinearizable, IsListing, KeepsPrecedence, MayStand, NonePrecedes, Precedes}
use Rattle.object_registers.specs.declared.exchanging.Exchanging.{Exchanging}
use Rattle.object_registers.specs.declared.limited.Limited.{Limited}
use Rattle.object_registers.specs.Registers.{exchanging_after, limited_after}
use Rattle.objects_agree.specs.Agreement.{access_of, accesses, as_operation, exchange_of, exchanges, HaveRecords, NoneIsRefused}
use Rattle.objects_agree.proofs.Places.{at_back, at_there}
use Rattle.objects_agree.proofs.Whole as limited
use Rattle.objects_agree.proofs.Whole.{term, to_term}

-- the same operations, which do something else
module _ {V W : Type 0} (f : Option ℕ → Kind → V) (g : Option ℕ → Kind → W) (ops : List (Op ℕ)) where
  pub listing_told : (order : List ℕ) → IsListing (map (as_operation f) ops) order → IsListing (map (as_operation g) ops) order
  listing_told order h p a at =
      let w = at_back (as_operation g) ops p a at in
      let P : Operation W → Type 0 = λ z. MayStand (is_due z) (times_of p order) in
      subst P w.2 (h p (as_operation f w.0) (at_there (as_operation f) ops p w.0 w.1))

  pub precedence_told : (order : List ℕ) → KeepsPrecedence (map (as_operation f) ops) order →
      KeepsPrecedence (map (as_operation g) ops) order
  precedence_told [] h = tt
  precedence_told (p ∷ rest) h = (first, precedence_told rest h.1)
    where
      first : NonePrecedes (map (as_operation g) ops) rest p
      first q a b stood qa pb pre =
          let v = at_back (as_operation g) ops q a qa in
          let w = at_back (as_operation g) ops p b pb in
          let P : Operation W → Type 0 = λ z. Precedes z b in
          let Q : Operation W → Type 0 = λ z. Precedes (as_operation g v.0) z in
          let before : Precedes (as_operation g v.0) (as_operation g w.0) = subst Q (sym w.2) (subst P (sym v.2) pre) in
          h.0 q (as_operation f v.0) (as_operation f w.0) stood (at_there (as_operation f) ops q v.0 v.1)
          (at_there (as_operation f) ops p w.0 w.1) before

-- one step, where none is due
abbrev pub lone : Limited → Exchanging
lone s = record { held = s.held }

abbrev pub free : Exchanging → Limited
free s = record { held = s.held; due = 0 }

tested : (b : Bool) (s t : Limited) → cond b (Some s) None ≡ Some t → s.due ≡ 0 →
    (cond b (Some (lone s)) None ≡ Some (lone t)) × (t.due ≡ 0)
tested true s t e z =
    let same : s ≡ t = same_Some s t e in (ap (λ (u : Limited). Some (lone u)) same, sym (ap (λ (u : Limited). u.due) same) ∙ z)
tested false s t e z = cc

step_there : (opening : ℕ) (s t : Limited) (item : Option ℕ) (kind : Kind) → (kind ≡ Refused → ⊥) → s.due ≡ 0 →
    limited_after s (access_of opening item kind) ≡ Some t →
    (exchanging_after (lone s) (exchange_of opening item kind) ≡ Some (lone t)) × (t.due ≡ 0)
step_there opening s t None kind other z e = tested (nat_eq s.held opening) s t e z
step_there opening s t (Some x) Write other z e =
    let made : Limited = record { held = x; due = s.due - 1 } in
    let same : made ≡ t = same_Some made t e in
    let due : t.due ≡ s.due - 1 = sym (ap (λ (u : Limited). u.due) same) in
    (ap (λ (u : Limited). Some (lone u)) same, omega (arith, due, z))
step_there opening s t (Some x) Read other z e = tested (nat_eq s.held x) s t e z
step_there opening s t (Some x) Refused other z e = absurd (other refl)

freed : (b : Bool) (s t : Exchanging) → cond b (Some s) None ≡ Some t → cond b (Some (free s)) None ≡ Some (free t)
freed true s t e = ap (λ (u : Exchanging). Some (free u)) (same_Some s t e)
freed false s t e = cc

step_back : (opening : ℕ) (s t : Exchanging) (item : Option ℕ) (kind : Kind) → (kind ≡ Refused → ⊥) →
    exchanging_after s (exchange_of opening item kind) ≡ Some t → limited_after (free s) (access_of opening item kind) ≡ Some (free t)
step_back opening s t None kind other e = freed (nat_eq s.held opening) s t e
step_back opening s t (Some x) Write other e =
    let made : Exchanging = record { held = x } in ap (λ (u : Exchanging). Some (free u)) (same_Some made t e)
step_back opening s t (Some x) Read other e = freed (nat_eq s.held x) s t e
step_back opening s t (Some x) Refused other e = absurd (other refl)

module _ (opening : ℕ) (ops : List (Op ℕ)) (none : NoneIsRefused ops) where
  steps_there : (order : List ℕ) (s : Limited) → s.due ≡ 0 → CanMake limited_after (accesses opening ops) s order →
      CanMake exchanging_after (exchanges opening ops) (lone s) order
  steps_there [] s z h = tt
  steps_there (p ∷ rest) s z h = (
    as_operation (exchange_of opening) o,
    lone h.1,
    at_there (as_operation (exchange_of opening)) ops p o w.1,
    made.0,
    steps_there rest h.1 made.1 h.4,
  )
    where
      w : (o : Op ℕ) × (slice_get ops p ≡ Some o) × (as_operation (access_of opening) o ≡ h.0)
      w = at_back (as_operation (access_of opening)) ops p h.0 h.2

      o : Op ℕ
      o = w.0

      made : (exchanging_after (lone s) (exchange_of opening o.item o.kind) ≡ Some (lone h.1)) × (h.1.due ≡ 0)
      made =
          let P : Operation _ → Type 0 = λ a. limited_after s a.what ≡ Some h.1 in
          step_there opening s h.1 o.item o.kind (none p o w.1) z (subst P (sym w.2) h.3)

  steps_back : (order : List ℕ) (s : Exchanging) → CanMake exchanging_after (exchanges opening ops) s order →
      CanMake limited_after (accesses opening ops) (free s) order
  steps_back [] s h = tt
  steps_back (p ∷ rest) s h = (
    as_operation (access_of opening) o,
    free h.1,
    at_there (as_operation (access_of opening)) ops p o w.1,
    made,
    steps_back rest h.1 h.4,
  )
    where
      w : (o : Op ℕ) × (slice_get ops p ≡ Some o) × (as_operation (exchange_of opening) o ≡ h.0)
      w = at_back (as_operation (exchange_of opening)) ops p h.0 h.2

      o : Op ℕ
      o = w.0

      made : limited_after (free s) (access_of opening o.item o.kind) ≡ Some (free h.1)
      made =
          let P : Operation _ → Type 0 = λ a. exchanging_after s a.what ≡ Some h.1 in
          step_back opening s h.1 o.item o.kind (none p o w.1) (subst P (sym w.2) h.3)

  lawful_there : IsLinearizable limited_after (record { held = opening; due = 0 }) (accesses opening ops) →
      IsLinearizable exchanging_after (record { held = opening }) (exchanges opening ops)
  lawful_there h = (
    h.0,
    record {
      listing = listing_told (access_of opening) (exchange_of opening) ops h.0 h.1.listing;
      precedence = precedence_told (access_of opening) (exchange_of opening) ops h.0 h.1.precedence;
      steps = steps_there h.0 (record { held = opening; due = 0 }) refl h.1.steps;
    },
  )

  lawful_back : IsLinearizable exchanging_after (record { held = opening }) (exchanges opening ops) →
      IsLinearizable limited_after (record { held = opening; due = 0 }) (accesses opening ops)
  lawful_back h = (
    h.0,
    record {
      listing = listing_told (exchange_of opening) (access_of opening) ops h.0 h.1.listing;
      precedence = precedence_told (exchange_of opening) (access_of opening) ops h.0 h.1.precedence;
      steps = steps_back h.0 (record { held = opening }) h.1.steps;
    },
  )

  -- no limit says anything
  any_limit : (limit : ℕ) (order : List ℕ) → RefusesLawfully (term limit ∷ []) ops order
  any_limit limit order = to_term ops limit order (λ i p o e f r w. absurd (none p o f r))

pub whole : (opening limit : ℕ) (ops : List (Op ℕ)) → NoneIsRefused ops →
    (((order : List ℕ) × IsVerdict (λ x y. x ≡ y) opening (term limit ∷ []) ops order Lawful) ↔
    (HaveRecords ops × IsLinearizable exchanging_after (record { held = opening }) (exchanges opening ops)))
whole opening limit ops none = (
  λ h.
      let k = (limited.whole opening 0 ops).0 (h.0, (h.1.0, any_limit opening ops none 0 h.0)) in
      (k.0, lawful_there opening ops none k.1),
  λ h.
      let k = (limited.whole opening 0 ops).1 (h.0, lawful_back opening ops none h.1) in
      (k.0, (k.1.0, any_limit opening ops none limit k.0)),
)
