-- What one end leads to, one operation after the other.
use Rattle.std.proofs.Common.{◌≡◌, ℕ, ◌+◌, ◌<◌, ◌≤◌, true, List, length, slice_get, Option, None, Some, refl, sym, ◌∙◌, ap, subst, arith}
use Rattle.std.proofs.Common.{◌⊎◌, inl, inr, Result, Ok, Err, OnOk}
use Rattle.std.proofs.lemmas.Bool.{cases_lt}
use Rattle.std.proofs.lemmas.Option.{same_Some}
use Rattle.object_core.specs.declared.operation.Operation.{Operation}
use Rattle.object_watch.specs.Remainders.{removed}
use Rattle.object_watch.specs.declared.remainder.Remainder.{Remainder}
use Rattle.object_watch.specs.inner.Levels.{AreAllTried, IsHeldWithSpare, IsEnding, IsEndingAt, AreStillThere, IsGrownBy, IsSeenTo}
use Rattle.object_watch.specs.inner.Levels.{IsLedOn, IsLeftBy}
use Rattle.object_watch.specs.inner.Levels.{IsLeftOutIn, IsPlacedIn, IsPureAt, IsPutAmong, IsTriedIn, IsLookedInto}
use Rattle.object_watch.specs.inner.Levels.IsSeenTo.{Keeps, Places, Tries}

-- two facts of one result
pub on_ok_both : {T E P Q R : Type 0} (r : Result T E) → (P → Q → R) → OnOk r P → OnOk r Q → OnOk r R
on_ok_both (Ok x) f p q = f p q
on_ok_both (Err e) f p q = tt

module _ {S W : Type 0} (after : S → W → Option S) (end : ℕ) where
  -- what is covered stays so
  pub still_covered : (old new : List (Remainder S W)) → AreStillThere old new → (s : S) (rest : List (Operation W)) →
      IsHeldWithSpare after end old s rest → IsHeldWithSpare after end new s rest
  still_covered old new still s rest h = (h.0, h.1, still h.0 h.1 h.2, h.3, h.4)

  pub still_tried : (old new : List (Remainder S W)) → AreStillThere old new → (s : S) (rest : List (Operation W)) (p n : ℕ) →
      AreAllTried after end s rest p n old → AreAllTried after end s rest p n new
  still_tried old new still s rest p n h = (
    λ o at may. still_covered old new still s (removed p rest) (h.0 o at may),
    λ q l. elim (h.1 q l) [
      | inl x ↦ inl x
      | inr x ↦ inr (λ a t at began step. still_covered old new still t (removed q rest) (x a t at began step))
    ],
  )

  pub still_handled : (seen seen' kept kept' : List (Remainder S W)) → AreStillThere seen seen' → AreStillThere kept kept' → (s : S)
      (rest : List (Operation W)) → IsSeenTo after end s rest seen kept → IsSeenTo after end s rest seen' kept'
  still_handled seen seen' kept kept' still too s rest (Keeps none h) = Keeps none (still_covered kept kept' too s rest h)
  still_handled seen seen' kept kept' still too s rest (Places p q ends pure h) =
      Places p q ends pure (λ a t at began step. still_covered seen seen' still t (removed q rest) (h a t at began step))
  still_handled seen seen' kept kept' still too s rest (Tries p ends h) =
      Tries p ends (still_tried seen seen' still s rest p (length rest) h)

  module _ (s : S) (rest : List (Operation W)) where
    -- nothing is new
    pub grown_not : (old : List (Remainder S W)) → IsGrownBy after end s rest old old
    grown_not old = record { still = λ i one e. e; from = λ i one e. inl e }

    pub grown_then : (old mid new : List (Remainder S W)) → IsGrownBy after end s rest old mid → IsGrownBy after end s rest mid new →
        IsGrownBy after end s rest old new
    grown_then old mid new g h = record { still = λ i one e. h.still i one (g.still i one e); from = from }
      where
        from : (i : ℕ) (one : Remainder S W) → slice_get new i ≡ Some one →
            (slice_get old i ≡ Some one) ⊎ IsLeftBy after end s rest one.state one.rest.items
        from i one e = elim (h.from i one e) [
          | inl was ↦ g.from i one was
          | inr x ↦ inr x
        ]

    -- what one operation leaves is put among them
    grown_put : (old new : List (Remainder S W)) (t : S) (less : List (Operation W)) → IsLeftBy after end s rest t less →
        IsPutAmong after end old t less new → IsGrownBy after end s rest old new
    grown_put old new t less left put = record { still = put.still; from = from }
      where
        from : (i : ℕ) (one : Remainder S W) → slice_get new i ≡ Some one →
            (slice_get old i ≡ Some one) ⊎ IsLeftBy after end s rest one.state one.rest.items
        from i one e = elim (put.from i one e) [
          | inl was ↦ inl was
          | inr x ↦
              let P : S → Type 0 = λ z. IsLeftBy after end s rest z one.rest.items in
              let Q : List (Operation W) → Type 0 = λ z. IsLeftBy after end s rest t z in
              inr (subst P (sym x.0) (subst Q (sym x.1) left))
        ]

    module _ (old new : List (Remainder S W)) (q : ℕ) (a : Operation W) (at : slice_get rest q ≡ Some a) where
      pub grown_placed : (t : S) → a.starts ≤ end → after s a.what ≡ Some t → IsPutAmong after end old t (removed q rest) new →
          IsGrownBy after end s rest old new
      grown_placed t began step put = grown_put old new t (removed q rest) (inl (q, a, at, began, step, refl)) put

      pub is_placed : (t : S) → after s a.what ≡ Some t → IsPutAmong after end old t (removed q rest) new →
          IsPlacedIn after end s rest q new
      is_placed t step put b u bt began bs =
          let same : b ≡ a = same_Some b a (sym bt ∙ at) in
          let f : after s a.what ≡ Some u = ap (λ (z : Operation W). after s z.what) (sym same) ∙ bs in
          let it : u ≡ t = same_Some u t (sym f ∙ step) in
          subst (λ z. IsHeldWithSpare after end new z (removed q rest)) (sym it) put.covered

      pub not_placed : ((t : S) → a.starts ≤ end → after s a.what ≡ Some t → ⊥) → IsPlacedIn after end s rest q new
      not_placed never b u bt bb bs =
          let same : b ≡ a = same_Some b a (sym bt ∙ at) in
          let began : b.starts ≡ a.starts = ap (λ (z : Operation W). z.starts) same in
          absurd (never u (omega (arith, bb, began)) (ap (λ (z : Operation W). after s z.what) (sym same) ∙ bs))

      pub grown_left_out : a.ends ≡ Some end → a.maybe ≡ true → IsPutAmong after end old s (removed q rest) new →
          IsGrownBy after end s rest old new
      grown_left_out ends may put = grown_put old new s (removed q rest) (inr (q, a, at, ends, may, refl, refl)) put

      pub not_left_out : (a.maybe ≡ true → ⊥) → IsLeftOutIn after end s rest q new
      not_left_out isnt o ot may =
          let same : o ≡ a = same_Some o a (sym ot ∙ at) in
          absurd (isnt (ap (λ (z : Operation W). z.maybe) (sym same) ∙ may))

    -- the first ones are tried
    pub tried_none : (new : List (Remainder S W)) (p : ℕ) → IsLeftOutIn after end s rest p new → AreAllTried after end s rest p 0 new
    tried_none new p h = (h, λ q l. absurd (omega (arith, l)))

    pub tried_more : (old new : List (Remainder S W)) (p n : ℕ) → AreAllTried after end s rest p n old →
        IsGrownBy after end s rest old new →
        IsTriedIn after end s rest n new → AreAllTried after end s rest p (n + 1) new
    tried_more old new p n h g placed = ((still_tried old new g.still s rest p n h).0, each)
      where
        each : (q : ℕ) → q < n + 1 → IsTriedIn after end s rest q new
        each q l = elim (cases_lt q n) [
          | inl less ↦ (still_tried old new g.still s rest p n h).1 q less
          | inr le ↦
              let e : n ≡ q = omega (arith, l, le) in
              subst (λ z. IsTriedIn after end s rest z new) e placed
        ]

    -- it leads on
    module _ (old new : List (Remainder S W)) (p : ℕ) (ends : IsEndingAt rest end p) (g : IsGrownBy after end s rest old new) where
      pub led_by_pure : (q : ℕ) → IsPureAt after end s rest q → IsPlacedIn after end s rest q new → IsLedOn after end s rest old new
      led_by_pure q pure placed = record { grown = g; handled = λ kept. Places p q ends pure placed }

      pub led_by_all : AreAllTried after end s rest p (length rest) new → IsLedOn after end s rest old new
      led_by_all tried = record { grown = g; handled = λ kept. Tries p ends tried }

    -- one is visited
    pub visited_led : (seen seen' kept : List (Remainder S W)) (p : ℕ) → IsEndingAt rest end p → IsLedOn after end s rest seen seen' →
        IsLookedInto after end s rest seen kept seen' kept
    visited_led seen seen' kept p ends h = record {
      seen_still = h.grown.still;
      seen_from = from;
      kept_still = λ i one e. e;
      kept_from = λ i one e. inl e;
      handled = h.handled kept;
    }
      where
        from : (i : ℕ) (one : Remainder S W) → slice_get seen' i ≡ Some one → (slice_get seen i ≡ Some one)
            ⊎ (((r : ℕ) × IsEndingAt rest end r) × IsLeftBy after end s rest one.state one.rest.items)
        from i one e = elim (h.grown.from i one e) [
          | inl was ↦ inl was
          | inr x ↦ inr ((p, ends), x)
        ]

    pub visited_kept : (seen kept kept' : List (Remainder S W)) → IsEnding rest end None → IsPutAmong after end kept s rest kept' →
        IsLookedInto after end s rest seen kept seen kept'
    visited_kept seen kept kept' none put = record {
      seen_still = λ i one e. e;
      seen_from = λ i one e. inl e;
      kept_still = put.still;
      kept_from = from;
      handled = Keeps none put.covered;
    }
      where
        from : (i : ℕ) (one : Remainder S W) → slice_get kept' i ≡ Some one → (slice_get kept i ≡ Some one)
            ⊎ (IsEnding rest end None × (one.state ≡ s) × (one.rest.items ≡ rest))
        from i one e = elim (put.from i one e) [
          | inl was ↦ inl was
          | inr x ↦ inr (none, x.0, x.1)
        ]
