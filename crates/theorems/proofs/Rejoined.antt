-- The last of all passes, and what a call of it shows.
use Rattle.std.proofs.Common.{◌≡◌, Bool, ℕ, zero, suc, ◌+◌, List, [], ◌∷◌, ◌++◌, length, slice_get, Some, length-append}
use Rattle.std.proofs.Common.{refl, sym, ◌∙◌, ap, subst, ◌⊎◌, inl, inr, arith}
use Rattle.std.proofs.lemmas.Option.{none-some, same_Some}
use Rattle.cell_contract.specs.declared.family.Family.{Ghosts as FamilyWords}
use Rattle.board_live.specs.declared.board.Board.{Board}
use Rattle.board_live.specs.declared.board.Pass.{Pass}
use Rattle.board_live.specs.declared.record.Posted.{Posted}
use Rattle.board_live.specs.Ends.{AllPasses}
use Rattle.board_live.specs.Passes.{IsCall, IsPass}
use Rattle.board_live.specs.Records.{stamped}
use Rattle.board_live.specs.SoFar.{HaveAtomicOrderSoFar}
use Rattle.history_core.specs.declared.history.Kind.{Kind}
use Rattle.theorems.specs.Boards.{AddsCall}

-- an element is one of the first, or the last
of_more : {A : Type 0} (xs : List A) (x y : A) (i : ℕ) → slice_get (xs ++ x ∷ []) i ≡ Some y →
    (slice_get xs i ≡ Some y) ⊎ ((i ≡ length xs) × (x ≡ y))
of_more [] x y zero e = inr (refl, same_Some x y e)
of_more [] x y (suc i) e = absurd (none-some y e)
of_more (z ∷ zs) x y zero e = inl e
of_more (z ∷ zs) x y (suc i) e = elim (of_more zs x y i e) [
  | inl a ↦ inl a
  | inr b ↦ inr (ap suc b.0, b.1)
]

at_front : {A : Type 0} (xs ys : List A) (i : ℕ) (x : A) → slice_get xs i ≡ Some x → slice_get (xs ++ ys) i ≡ Some x
at_front [] ys i x e = absurd (none-some x e)
at_front (z ∷ xs) ys zero x e = e
at_front (z ∷ xs) ys (suc i) x e = at_front xs ys i x e

at_end : {A : Type 0} (xs : List A) (x : A) → slice_get (xs ++ x ∷ []) (length xs) ≡ Some x
at_end [] x = refl
at_end (z ∷ xs) x = at_end xs x

module _ {V F S T : Type 0} (words : FamilyWords F (Posted V) S T) (obeys : V → Bool) (board : Board V F S T) where
  module _ (passes others : List (Pass V F S T)) (p : Pass V F S T) (all : AllPasses words obeys board passes)
      (is : passes ≡ others ++ p ∷ [])
    where
      pub last_pass : IsPass words obeys board p × (p.process ≡ length others)
      last_pass = all.each (length others) p (ap (λ z. slice_get z (length others)) is ∙ at_end others p)

  -- a call is one more of those made with the pass
  pub of_call : (kind : Kind) (old new : Pass V F S T) (seen chosen : Posted V) → IsCall words obeys board kind old new seen →
      new.own ≡ chosen → HaveAtomicOrderSoFar words board new → AddsCall words board kind old new seen chosen
  of_call kind old new seen chosen h is atomic = record {
    call = record {
      begin = h.begin;
      end = h.end;
      kind = kind;
      seen = stamped seen;
      chosen = stamped new.own;
      tells = h.tells;
      finds = h.finds;
    };
    is = (refl, refl, ap stamped is);
    timed = (h.interval.0, h.interval.1);
    made = h.made;
    atomic = atomic;
  }
