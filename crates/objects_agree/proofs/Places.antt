-- The operation at a place, on both sides.
use Rattle.std.proofs.Common.{◌≡◌, ℕ, List, map, slice_get, option_map, Option, None, Some, refl, sym, ◌∙◌, ap}
use Rattle.std.proofs.lemmas.Option.{same_Some, slice_get-map}
use Rattle.history_core.specs.declared.history.Op.{Op}
use Rattle.object_core.specs.declared.operation.Operation.{Operation}

module _ {W : Type 0} (told : Op ℕ → Operation W) (ops : List (Op ℕ)) where
  pub at_there : (p : ℕ) (o : Op ℕ) → slice_get ops p ≡ Some o → slice_get (map told ops) p ≡ Some (told o)
  at_there p o e = slice_get-map told ops p ∙ ap (option_map told) e

  pub at_back : (p : ℕ) (a : Operation W) → slice_get (map told ops) p ≡ Some a → (o : Op ℕ) × (slice_get ops p ≡ Some o) × (told o ≡ a)
  at_back p a e = from (slice_get ops p) refl (sym (slice_get-map told ops p) ∙ e)
    where
      from : (x : Option (Op ℕ)) → slice_get ops p ≡ x → option_map told x ≡ Some a →
          (o : Op ℕ) × (slice_get ops p ≡ Some o) × (told o ≡ a)
      from None f g = cc
      from (Some o) f g = (o, f, same_Some (told o) a g)
