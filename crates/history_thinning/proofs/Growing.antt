-- A list with some empty elements more.
use Rattle.std.proofs.Common.{◌≡◌, ◌≤◌, ◌-◌, ℕ, zero, suc, List, [], ◌∷◌, ◌++◌, length, slice_get, take, replicate, Some, Result, Ok, Err}
use Rattle.std.proofs.Common.{sym, ◌∙◌, ◌⊎◌, ap, subst, inl, inr, take_all}
use Rattle.std.specs.Prelude.{if◌then◌else◌, IfOk, is_ok, OnErr}
use Rattle.std.proofs.lemmas.Option.{none-some, same_Some}
use Rattle.history_thinning.specs.inner.Entering.{Grows}

module _ {X : Type 0} (empty : X) where
  stays : (old more : List X) (n : ℕ) (x : X) → slice_get old n ≡ Some x → slice_get (old ++ more) n ≡ Some x
  stays [] more n x e = absurd (none-some x e)
  stays (y ∷ old) more zero x e = e
  stays (y ∷ old) more (suc n) x e = stays old more n x e

  is_empty : (count n : ℕ) (x : X) → slice_get (replicate count empty) n ≡ Some x → x ≡ empty
  is_empty zero n x e = absurd (none-some x e)
  is_empty (suc count) zero x e = sym (same_Some empty x e)
  is_empty (suc count) (suc n) x e = is_empty count n x e

  from : (old : List X) (count n : ℕ) (x : X) → slice_get (old ++ replicate count empty) n ≡ Some x →
      (slice_get old n ≡ Some x) ⊎ (x ≡ empty)
  from [] count n x e = inr (is_empty count n x e)
  from (y ∷ old) count zero x e = inl e
  from (y ∷ old) count (suc n) x e = from old count n x e

  -- a vector that is made longer, if there is memory for it
  pub resized : {T E : Type 0} (result : Result T E) (old new : List X) (count k : ℕ) → length old ≤ count →
      new ≡ (if is_ok result then take count old ++ replicate (count - k) empty else old) →
      IfOk result (λ _. Grows empty old new) × OnErr result (Grows empty old new)
  resized (Ok x) old new count k le e = (
    subst (λ (z : List X). Grows empty old z) (sym (e ∙ ap (λ (z : List X). z ++ replicate (count - k) empty) (take_all count old le)))
        (record { stays = stays old (replicate (count - k) empty); from = from old (count - k) }),
    tt,
  )
  resized (Err x) old new count k le e = (
    tt,
    subst (λ (z : List X). Grows empty old z) (sym e) (record { stays = λ n y h. h; from = λ n y h. inl h }),
  )
