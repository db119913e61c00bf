-- The passes of a board of two or three processes, and the calls that were made with each.
use Rattle.std.proofs.Common.{◌≡◌, Bool, ℕ, zero, suc, ◌<◌, List, [], ◌∷◌, slice_get, Some, refl, sym, subst, ◌⊎◌, arith}
use Rattle.std.proofs.lemmas.Option.{none-some, same_Some}
use Rattle.history_core.specs.declared.history.Kind.TheVariants.{Read}
use Rattle.cell_contract.specs.declared.family.Family.{Ghosts as FamilyWords}
use Rattle.matrix_core.specs.Stamps.{IsBelow}
use Rattle.board_history.specs.BoardRuns.{Called}
use Rattle.board_live.specs.declared.board.Board.{Board}
use Rattle.board_live.specs.declared.board.Pass.{Pass}
use Rattle.board_live.specs.declared.record.Posted.{Posted}
use Rattle.board_live.specs.Ends.{AllPasses, did_by, HaveAtomicOrder}
use Rattle.board_live.specs.Passes.{HasMade, IsPass}
use Rattle.theorem_uses.proofs.Following.{heeds, the_item}

module _ {V F S T : Type 0} (words : FamilyWords F (Posted V) S T) (board : Board V F S T) where
  pub two_passes : (obeys : V → Bool) (w r : Pass V F S T) → board.processes ≡ 2 → IsPass words obeys board w → w.process ≡ 0 →
      IsPass words obeys board r → r.process ≡ 1 → AllPasses words obeys board (w ∷ r ∷ [])
  two_passes obeys w r n of_w p_w of_r p_r = record { all = sym n; some = omega arith; each = λ i p at. each i p at }
    where
      Is : ℕ → Pass V F S T → Type 0
      Is i p = IsPass words obeys board p × (p.process ≡ i)

      each : (i : ℕ) (p : Pass V F S T) → slice_get (w ∷ r ∷ []) i ≡ Some p → IsPass words obeys board p × (p.process ≡ i)
      each zero p at = subst (Is 0) (same_Some w p at) (of_w, p_w)
      each (suc zero) p at = subst (Is 1) (same_Some r p at) (of_r, p_r)
      each (suc (suc i)) p at = absurd (none-some p at)

  pub three_passes : (obeys : V → Bool) (q p r : Pass V F S T) → board.processes ≡ 3 → IsPass words obeys board q → q.process ≡ 0 →
      IsPass words obeys board p → p.process ≡ 1 → IsPass words obeys board r → r.process ≡ 2 →
      AllPasses words obeys board (q ∷ p ∷ r ∷ [])
  three_passes obeys q p r n of_q p_q of_p p_p of_r p_r = record { all = sym n; some = omega arith; each = λ i x at. each i x at }
    where
      Is : ℕ → Pass V F S T → Type 0
      Is i x = IsPass words obeys board x × (x.process ≡ i)

      each : (i : ℕ) (x : Pass V F S T) → slice_get (q ∷ p ∷ r ∷ []) i ≡ Some x → IsPass words obeys board x × (x.process ≡ i)
      each zero x at = subst (Is 0) (same_Some q x at) (of_q, p_q)
      each (suc zero) x at = subst (Is 1) (same_Some p x at) (of_p, p_p)
      each (suc (suc zero)) x at = subst (Is 2) (same_Some r x at) (of_r, p_r)
      each (suc (suc (suc i))) x at = absurd (none-some x at)

  -- one call of the first process and one of the last, of two and of three
  abbrev of_two : Called V → Called V → ℕ → List (Called V)
  of_two c d zero = c ∷ []
  of_two c d (suc zero) = d ∷ []
  of_two c d (suc (suc i)) = []

  abbrev of_three : Called V → Called V → ℕ → List (Called V)
  of_three c d zero = c ∷ []
  of_three c d (suc zero) = []
  of_three c d (suc (suc zero)) = d ∷ []
  of_three c d (suc (suc (suc i))) = []

  pub three_end : (q p r : Pass V F S T) (last : Posted V) (c d : Called V) → board.processes ≡ 3 →
      HaveAtomicOrder words board (q ∷ p ∷ r ∷ []) last → HasMade words board q (c ∷ []) → HasMade words board p [] →
      HasMade words board r (d ∷ []) → c.end < d.begin → IsBelow c.chosen.stamp d.chosen.stamp ⊎ (c.chosen ≡ d.chosen)
  three_end q p r last c d n atomic of_q of_p of_r l =
      let a = atomic (of_three c d) (λ i x at. made i x at) in
      heeds words.width board.processes board.limit board.first.item a.steps (did_by words (q ∷ p ∷ r ∷ []) (of_three c d)) a.run c d 0 2
      (omega (arith, n)) (omega (arith, n)) refl refl l
    where
      made : (i : ℕ) (x : Pass V F S T) → slice_get (q ∷ p ∷ r ∷ []) i ≡ Some x → HasMade words board x (of_three c d i)
      made zero x at = subst (λ z. HasMade words board z (c ∷ [])) (same_Some q x at) of_q
      made (suc zero) x at = subst (λ z. HasMade words board z []) (same_Some p x at) of_p
      made (suc (suc zero)) x at = subst (λ z. HasMade words board z (d ∷ [])) (same_Some r x at) of_r
      made (suc (suc (suc i))) x at = absurd (none-some x at)

  pub two_end : (w r : Pass V F S T) (last : Posted V) (c d : Called V) → board.processes ≡ 2 →
      HaveAtomicOrder words board (w ∷ r ∷ []) last → HasMade words board w (c ∷ []) → HasMade words board r (d ∷ []) → c.end < d.begin →
      0 < c.chosen.stamp.tag → d.kind ≡ Read → d.chosen ≡ c.chosen
  two_end w r last c d n atomic of_w of_r l tag read =
      let a = atomic (of_two c d) (λ i x at. made i x at) in
      the_item words.width board.processes board.limit board.first.item a.steps
      (did_by words (w ∷ r ∷ []) (of_two c d)) a.run c d n refl refl l
      tag read
    where
      made : (i : ℕ) (x : Pass V F S T) → slice_get (w ∷ r ∷ []) i ≡ Some x → HasMade words board x (of_two c d i)
      made zero x at = subst (λ z. HasMade words board z (c ∷ [])) (same_Some w x at) of_w
      made (suc zero) x at = subst (λ z. HasMade words board z (d ∷ [])) (same_Some r x at) of_r
      made (suc (suc i)) x at = absurd (none-some x at)
