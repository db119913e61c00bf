-- What a step makes of the operations: it changes one of them, and leaves its process and its beginning.
use Rattle.std.proofs.Common.{◌≡◌, ℕ, zero, suc, List, [], ◌∷◌, set, refl, ap}
use Rattle.std.specs.Prelude.{slice_get, Some}
use Rattle.std.proofs.lemmas.Option.{none-some, same_Some}
use Rattle.history_core.specs.declared.history.Op.{Op}
use Rattle.matrix_core.specs.inner.Operations.{changed, chose, ended}
use Rattle.matrix_core.specs.declared.progress.Outcome.{Outcome}
use Rattle.matrix_core.specs.declared.progress.Outcome.TheVariants.{Written, Seen, Ended}

pub changed_is : {X : Type 0} (f : X → X) (p : ℕ) (xs : List X) (x : X) → slice_get xs p ≡ Some x → changed f p xs ≡ set xs p (f x)
changed_is f p [] x h = absurd (none-some x h)
changed_is f zero (y ∷ ys) x h = ap (λ z. f z ∷ ys) (same_Some y x h)
changed_is f (suc p) (y ∷ ys) x h = ap (λ zs. y ∷ zs) (changed_is f p ys x h)

module _ {R : Type 0} where
  -- what a choice and an end leave of an operation
  pub chose_who : (outcome : Outcome R) (op : Op R) → (chose outcome op).who ≡ op.who
  chose_who (Written stamp) op = refl
  chose_who (Seen answer) op = refl
  chose_who (Ended last) op = refl

  pub chose_starts : (outcome : Outcome R) (op : Op R) → (chose outcome op).starts ≡ op.starts
  chose_starts (Written stamp) op = refl
  chose_starts (Seen answer) op = refl
  chose_starts (Ended last) op = refl

  pub chose_ends : (outcome : Outcome R) (op : Op R) → (chose outcome op).ends ≡ op.ends
  chose_ends (Written stamp) op = refl
  chose_ends (Seen answer) op = refl
  chose_ends (Ended last) op = refl

  pub ended_who : (now : ℕ) (outcome : Outcome R) (op : Op R) → (ended now outcome op).who ≡ op.who
  ended_who now (Written stamp) op = refl
  ended_who now (Seen answer) op = refl
  ended_who now (Ended last) op = refl

  pub ended_starts : (now : ℕ) (outcome : Outcome R) (op : Op R) → (ended now outcome op).starts ≡ op.starts
  ended_starts now (Written stamp) op = refl
  ended_starts now (Seen answer) op = refl
  ended_starts now (Ended last) op = refl

  pub ended_ends : (now : ℕ) (outcome : Outcome R) (op : Op R) → (ended now outcome op).ends ≡ Some now
  ended_ends now (Written stamp) op = refl
  ended_ends now (Seen answer) op = refl
  ended_ends now (Ended last) op = refl
