-- What is put among others, unless it is covered.
use Rattle.std.proofs.Common.{◌≡◌, ℕ, List, [], ◌∷◌, ◌++◌, length, slice_get, Option, Some, sym, ◌∙◌, ap, subst}
use Rattle.std.proofs.Common.{◌⊎◌, inl, inr}
use Rattle.object_core.specs.declared.operation.Operation.{Operation}
use Rattle.object_sweep.proofs.Lists.{get_front, get_last, get_push}
use Rattle.object_watch.specs.declared.remainder.Remainder.{Remainder}
use Rattle.object_watch.specs.inner.Levels.{IsHeldWithSpare, IsPutAmong, AreWithSpare}
use Rattle.object_watch.proofs.Within.{within_itself}

module _ {S W : Type 0} (after : S → W → Option S) (end : ℕ) (held : List (Remainder S W)) (s : S) (rest : List (Operation W)) where
  -- one covers it
  pub put_covered : IsHeldWithSpare after end held s rest → IsPutAmong after end held s rest held
  put_covered h = record { still = λ i one e. e; covered = h; from = λ i one e. inl e }

  -- it is pushed
  pub put_last : (one : Remainder S W) → one.state ≡ s → one.rest.items ≡ rest → IsPutAmong after end held s rest (held ++ one ∷ [])
  put_last one is_state is_rest = record {
    still = λ i x e. get_front held (one ∷ []) i x e;
    covered = (
      length held,
      one,
      get_last held one,
      is_state,
      subst (AreWithSpare after end rest) (sym is_rest) (within_itself after end
          rest),
    );
    from = from;
  }
    where
      from : (i : ℕ) (x : Remainder S W) → slice_get (held ++ one ∷ []) i ≡ Some x →
          (slice_get held i ≡ Some x) ⊎ ((x.state ≡ s) × (x.rest.items ≡ rest))
      from i x at = elim (get_push held one i x at) [
        | inl old ↦ inl old
        | inr new ↦ inr (
          ap (λ (z : Remainder S W). z.state) (sym new.1) ∙ is_state,
          ap (λ (z : Remainder S W). z.rest.items) (sym new.1) ∙ is_rest,
        )
      ]
