-- From an order that is lawful for the log to the history.
use Rattle.std.proofs.Common.{◌≡◌, ◌≢◌, ℕ, ◌+◌, ◌≤◌, ◌&&◌, ◌||◌, Bool, true, false, cond, not, List, [], ◌∷◌, slice_get}
use Rattle.std.proofs.Common.{filter, Option, None, Some, is_some, zero, suc, refl, sym, ◌∙◌, ap, subst, arith}
use Rattle.std.proofs.Common.{IsSome, inl, inr, ◌⊎◌}
use Rattle.std.proofs.lemmas.Bool.{cases_eq}
use Rattle.std.proofs.lemmas.Option.{option_and_then_some}
use Rattle.history_core.proofs.Counts.{times_apart, times_self, times_some}
use Rattle.history_core.proofs.Listed.{NoneBackFrom}
use Rattle.history_core.specs.declared.history.Kind.{Kind}
use Rattle.history_core.specs.declared.history.Kind.TheVariants.{Write, Read, Refused}
use Rattle.history_core.specs.declared.history.Op.{Op}
use Rattle.history_core.specs.Orders as history
use Rattle.history_core.specs.Orders.{is_write, listed_at, ListsPlaces, times_of}
use Rattle.object_core.specs.declared.operation.Operation.{Operation}
use Rattle.object_core.specs.Logs as object
use Rattle.object_core.specs.Logs.{CanMake, is_due, NonePrecedes}
use Rattle.object_registers.specs.declared.limited.Access.{Access}
use Rattle.object_registers.specs.declared.limited.Limited.{Limited}
use Rattle.object_registers.specs.Registers.{limited_after}
use Rattle.objects_agree.specs.Agreement.{accesses, access_of, as_operation, can_stand, can_stand_at, HaveRecords, those_that_stand}
use Rattle.objects_agree.proofs.Places.{at_back, at_there}
use Rattle.objects_agree.proofs.Steps.{Comes, due_by, Follows, follows_more, held_by, Leaves, step_back, step_idle}

-- how often a place stands among those that pass a test
module _ (test : ℕ → Bool) where
  times_kept : (p : ℕ) (order : List ℕ) → test p ≡ true → times_of p (filter test order) ≡ times_of p order
  times_kept p [] t = refl
  times_kept p (x ∷ rest) t = by_test (test x) refl (times_kept p rest t)
    where
      by_test : (b : Bool) → test x ≡ b → times_of p (filter test rest) ≡ times_of p rest →
          times_of p (filter test (x ∷ rest)) ≡ times_of p (x ∷ rest)
      by_test true e more = ap (λ b. times_of p (cond b (x ∷ filter test rest) (filter test rest))) e ∙ by_place (cases_eq x p)
        where
          by_place : (x ≡ p) ⊎ (x ≢ p) → times_of p (x ∷ filter test rest) ≡ times_of p (x ∷ rest)
          by_place (inl s) =
              let P : ℕ → Type 0 = λ z. times_of p (z ∷ filter test rest) ≡ times_of p (z ∷ rest) in
              subst P (sym s) (times_self p (filter test rest) ∙ ap (λ n. 1 + n) more ∙ sym (times_self p rest))
          by_place (inr ne) = times_apart p x (filter test rest) ne ∙ more ∙ sym (times_apart p x rest ne)
      by_test false e more =
          let other : x ≢ p = λ s. (let f : test p ≡ false = ap test (sym s) ∙ e in cc) in
          ap (λ b. times_of p (cond b (x ∷ filter test rest) (filter test rest))) e ∙ more ∙ sym (times_apart p x rest other)

  times_left : (p : ℕ) (order : List ℕ) → test p ≡ false → times_of p (filter test order) ≡ 0
  times_left p [] t = refl
  times_left p (x ∷ rest) t = by_test (test x) refl (times_left p rest t)
    where
      by_test : (b : Bool) → test x ≡ b → times_of p (filter test rest) ≡ 0 → times_of p (filter test (x ∷ rest)) ≡ 0
      by_test true e more =
          let other : x ≢ p = λ s. (let f : test p ≡ true = ap test (sym s) ∙ e in cc) in
          ap (λ b. times_of p (cond b (x ∷ filter test rest) (filter test rest))) e
          ∙ times_apart p x (filter test rest) other ∙ more
      by_test false e more = ap (λ b. times_of p (cond b (x ∷ filter test rest) (filter test rest))) e ∙ more

  times_fewer : (p : ℕ) (order : List ℕ) → times_of p (filter test order) ≤ times_of p order
  times_fewer p order = by_test (test p) refl
    where
      by_test : (b : Bool) → test p ≡ b → times_of p (filter test order) ≤ times_of p order
      by_test true e = let s = times_kept p order e in omega (arith, s)
      by_test false e = let s = times_left p order e in omega (arith, s)

  -- precedence is kept
  pub precedence_kept : (log : List (Operation Access)) (order : List ℕ) → object.KeepsPrecedence log order →
      object.KeepsPrecedence log (filter test order)
  precedence_kept log [] h = tt
  precedence_kept log (x ∷ rest) h = by_test (test x) refl (precedence_kept log rest h.1)
    where
      first : NonePrecedes log (filter test rest) x
      first q a b stood qa xb = let le = times_fewer q rest in h.0 q a b (omega (arith, le, stood)) qa xb

      by_test : (b : Bool) → test x ≡ b → object.KeepsPrecedence log (filter test rest) →
          object.KeepsPrecedence log (filter test (x ∷ rest))
      by_test true e more =
          let P : Bool → Type 0 = λ b. object.KeepsPrecedence log (cond b (x ∷ filter test rest) (filter test rest)) in
          subst P (sym e) (first, more)
      by_test false e more =
          let P : Bool → Type 0 = λ b. object.KeepsPrecedence log (cond b (x ∷ filter test rest) (filter test rest)) in
          subst P (sym e) more

-- how often an operation stands in an order of the history
may_back : (ends item : Option ℕ) (kind : Kind) (times : ℕ) → (IsSome ends → IsSome item) →
    object.MayStand (is_some ends && not false) times →
    ((is_some ends || is_write kind) && is_some item) ≡ true → history.MayStand ends kind times
may_back (Some end) item kind times h m t = m
may_back None item Write times h m t = m
may_back None item Read times h m t = cc
may_back None item Refused times h m t = cc

never_back : (ends item : Option ℕ) (kind : Kind) (times : ℕ) → (IsSome ends → IsSome item) →
    ((is_some ends || is_write kind) && is_some item) ≡ false → times ≡ 0 → history.MayStand ends kind times
never_back (Some end) None kind times h t z = let s : false ≡ true = h refl in cc
never_back (Some end) (Some x) kind times h t z = cc
never_back None item Write times h t z = omega (arith, z)
never_back None item Read times h t z = z
never_back None item Refused times h t z = z

module _ (opening : ℕ) (ops : List (Op ℕ)) where
  pub listing_back : (order : List ℕ) → HaveRecords ops → object.IsListing (accesses opening ops) order →
      (p : ℕ) (o : Op ℕ) → slice_get ops p ≡ Some o → history.MayStand o.ends o.kind (times_of p (those_that_stand ops order))
  listing_back order records h p o at = by_test (can_stand o) refl
    where
      test : ℕ → Bool
      test q = can_stand_at (slice_get ops q)

      by_test : (b : Bool) → can_stand o ≡ b → history.MayStand o.ends o.kind (times_of p (those_that_stand ops order))
      by_test true e =
          let P : ℕ → Type 0 = λ n. history.MayStand o.ends o.kind n in
          let same = times_kept test p order (ap can_stand_at at ∙ e) in
          let may = h p (as_operation (access_of opening) o) (at_there (as_operation (access_of opening)) ops p o at) in
          subst P (sym same) (may_back o.ends o.item o.kind (times_of p order) (records p o at) may e)
      by_test false e =
          never_back o.ends o.item o.kind (times_of p (those_that_stand ops order)) (records p o at) e
          (times_left test p order (ap can_stand_at at ∙ e))

  -- of an order of the log in which precedence is kept, it is kept in the history
  pub precedence_back : (order : List ℕ) → object.KeepsPrecedence (accesses opening ops) order → NoneBackFrom ops order 0
  precedence_back [] h x y a b zx xy ax by pre = cc
  precedence_back (p ∷ rest) h zero zero a b zx xy ax by pre = absurd (omega (arith, xy))
  precedence_back (p ∷ rest) h zero (suc y) a b zx xy ax by pre =
      option_and_then_some (slice_get ops) (slice_get rest y) b by (λ q e f.
      let some = times_some q y rest e in
      let later = at_there (as_operation (access_of opening)) ops q b f in
      h.0 q (as_operation (access_of opening) b) (as_operation (access_of opening) a) (omega (arith, some)) later
      (at_there (as_operation (access_of opening)) ops p a ax) pre)
  precedence_back (p ∷ rest) h (suc x) zero a b zx xy ax by pre = absurd (omega (arith, xy))
  precedence_back (p ∷ rest) h (suc x) (suc y) a b zx xy ax by pre =
      precedence_back rest h.1 x y a b (omega arith) (omega (arith, xy)) ax by pre

  pub steps_back : (order : List ℕ) (s : Limited) → CanMake limited_after (accesses opening ops) s order →
      Follows ops s.held s.due (those_that_stand ops order)
  steps_back [] s h = record { places = λ i p e. cc; reading = λ i o e. cc; limited = λ i p o e f r w. cc }
  steps_back (p ∷ rest) s h = by_test (can_stand o) refl (steps_back rest h.1 h.4)
    where
      w : (z : Op ℕ) × (slice_get ops p ≡ Some z) × (as_operation (access_of opening) z ≡ h.0)
      w = at_back (as_operation (access_of opening)) ops p h.0 h.2

      o : Op ℕ
      o = w.0

      step : limited_after s (access_of opening o.item o.kind) ≡ Some h.1
      step = let P : Operation Access → Type 0 = λ z. limited_after s z.what ≡ Some h.1 in subst P (sym w.2) h.3

      kept : List ℕ
      kept = those_that_stand ops rest

      moved : (held due : ℕ) → Leaves h.1 held due → Follows ops h.1.held h.1.due kept → Follows ops held due kept
      moved held due l f =
          let P : ℕ → Type 0 = λ n. Follows ops n h.1.due kept in
          let Q : ℕ → Type 0 = λ n. Follows ops held n kept in
          subst Q l.1 (subst P l.0 f)

      by_item : (item : Option ℕ) → o.item ≡ item → can_stand o ≡ true → Follows ops h.1.held h.1.due kept →
          Follows ops s.held s.due (p ∷ kept)
      by_item None e t f = absurd (none (is_some o.ends || is_write o.kind) (ap is_some e) t)
        where
          none : (b : Bool) → is_some o.item ≡ false → (b && is_some o.item) ≡ true → ⊥
          none true i u = cc
          none false i u = cc
      by_item (Some x) e t f =
          let P : Option ℕ → Type 0 = λ z. limited_after s (access_of opening z o.kind) ≡ Some h.1 in
          let c = step_back opening s h.1 x o.kind (subst P e step) in
          let Q : Option ℕ → Type 0 =
          λ z. Comes s.held s.due z o.kind × Leaves h.1 (held_by s.held z o.kind) (due_by s.due o.kind) in
          let d : Comes s.held s.due o.item o.kind × Leaves h.1 (held_by s.held o.item o.kind) (due_by s.due o.kind) = subst Q (sym e) c in
          follows_more ops p o w.1 kept s.held s.due d.0 (moved (held_by s.held o.item o.kind) (due_by s.due o.kind) d.1 f)

      by_test : (b : Bool) → can_stand o ≡ b → Follows ops h.1.held h.1.due kept →
          Follows ops s.held s.due (those_that_stand ops (p ∷ rest))
      by_test true e f =
          let P : Bool → Type 0 = λ b. Follows ops s.held s.due (cond b (p ∷ kept) kept) in
          subst P (sym (ap can_stand_at w.1 ∙ e)) (by_item o.item refl e f)
      by_test false e f =
          let P : Bool → Type 0 = λ b. Follows ops s.held s.due (cond b (p ∷ kept) kept) in
          subst P (sym (ap can_stand_at w.1 ∙ e)) (moved s.held s.due (step_idle opening s h.1 o.ends o.item o.kind step e) f)
