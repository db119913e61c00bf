-- What a call says of itself, by its parts.
use Rattle.std.proofs.Common.{◌≡◌, ◌≢◌, Bool, IsTrue, ℕ, ◌+◌, ◌<◌, ◌≤◌, true, false, zero, suc, List, [], ◌∷◌, ◌++◌, length, slice_get}
use Rattle.std.proofs.Common.{Some, All}
use Rattle.std.proofs.Common.{refl, sym, ◌∙◌, ap, subst, ◌⊎◌, inl, inr, arith}
use Rattle.std.proofs.lemmas.List.Elements.{All-get_or}
use Rattle.std.proofs.lemmas.Option.{get_or_from_slice_get, none-some, same_Some, slice_get_within}
use Rattle.history_core.specs.declared.history.Kind.{Kind}
use Rattle.matrix_core.specs.Choices.{IsAtMost}
use Rattle.matrix_core.specs.Lines.{other}
use Rattle.cell_contract.specs.Intervals.{AreFirst}
use Rattle.cell_contract.specs.Running.{last_or}
use Rattle.cell_contract.specs.declared.family.Family.{Ghosts as FamilyWords}
use Rattle.board_history.proofs.Growing.{not_both}
use Rattle.board_live.specs.declared.board.Board.{Board}
use Rattle.board_live.specs.declared.board.Pass.{Pass}
use Rattle.board_live.specs.declared.record.Posted.{Posted}
use Rattle.board_live.specs.Passes.{IsCall, IsPass}
use Rattle.board_live.specs.Records.{greater, greatest_posted}
use Rattle.theorem_uses.specs.Boards.{ForgetsNoReceipt, SeesTheGreater, SeesWhatWasTold, ShowsItsOwn, TakesTime}

last_is : {A : Type 0} (x y : A) (xs : List A) → last_or x (xs ++ y ∷ []) ≡ y
last_is x y [] = refl
last_is x y (z ∷ xs) = last_is z y xs

one : {A : Type 0} (xs : List A) → length xs + 1 ≡ 2 → (x : A) × (xs ≡ x ∷ [])
one [] e = absurd (omega (arith, e))
one (x ∷ []) e = (x, refl)
one (x ∷ y ∷ xs) e = absurd (omega (arith, e))

either : (b : Bool) → (b ≡ true) ⊎ (b ≡ false)
either true = inl refl
either false = inr refl

all_there : {A : Type 0} (P : A → Type 0) (xs : List A) (k : ℕ) (x : A) → All P xs → slice_get xs k ≡ Some x → P x
all_there P xs k x h e = subst P (get_or_from_slice_get xs k x x e) (All-get_or P xs k x (slice_get_within xs k x e) h)

module _ {V F S T : Type 0} (words : FamilyWords F (Posted V) S T) (obeys : V → Bool) (board : Board V F S T) (kind : Kind)
    (old new : Pass V F S T) (seen : Posted V) where
  pub sees : SeesTheGreater words obeys board kind old new seen
  sees call two first =
      let a = one call.answers (call.each ∙ two) in
      let at : other old.process 0 ≡ 1 = ap (λ i. other i 0) first in
      let h = call.answered 0 a.0 (ap (λ z. slice_get z 0) a.1) in
      let number = h.read.numbered.number in (
        a.0,
        number,
        call.is_seen ∙ ap (greatest_posted old.own) a.1,
        ap (λ i. last_or board.first (words.reads new.seat i).answers) (sym at) ∙ ap (last_or board.first) h.read.answers
            ∙ last_is board.first a.0 (words.reads old.seat (other old.process 0)).answers,
        subst (λ i. slice_get (board.first ∷ (words.reads new.seat i).known.items) number ≡ Some a.0) at h.read.numbered.source,
        h.running.0,
      )

  pub heeds : SeesWhatWasTold words obeys board kind old new seen
  heeds j k told call l ne e = all_there (λ t. IsAtMost t.stamp seen.stamp) (words.reads old.seat j).told k told (call.heeds j l ne) e

  pub shows : ShowsItsOwn words obeys board kind old new seen
  shows j call pass told l ne = elim (either call.tells) [
    | inl tells ↦
        ap (last_or board.first) (call.written tells j l ne).items ∙ last_is board.first new.own (words.writes old.seat j).items
    | inr untold ↦ elim (either call.finds) [
      | inl finds ↦ absurd (not_both new.told told (call.untold untold finds))
      | inr silent ↦
          let same = call.silent untold silent in
          ap (λ w. last_or board.first w.items) (call.unwritten untold j) ∙ pass.last (sym same.1 ∙ told) j l ne ∙ sym same.0
    ]
  ]

  pub takes_time : TakesTime words obeys board kind old new seen
  takes_time call = let a = call.interval.0 in let b = call.interval.1 in let c = call.interval.2 in omega (arith, a, b, c)

  pub forgets_none : ForgetsNoReceipt words obeys board kind old new seen
  forgets_none j k told call l ne =
      let h = call.heard j l ne in
      let reads = words.reads new.seat j in
      (h.same, λ at. all_there (λ t. AreFirst t reads.known.items reads.known.times) reads.heard k told h.first at)
