-- An answer after a receipt, on a board of two: it can't be the reader's own record, which is older than what it was told, and so it is one
-- of the writes known, which begin with those that the receipt carries.
use Rattle.std.proofs.Common.{◌≡◌, ◌≢◌, Bool, ℕ, ◌<◌, List, [], ◌∷◌, ◌++◌, slice_get, Some, sym, ◌∙◌, ap, subst, inl, inr, arith}
use Rattle.std.specs.Prelude.{All}
use Rattle.std.proofs.lemmas.List.Elements.{All-head, All-tail}
use Rattle.cell_contract.specs.Intervals.{AreFirst, IsHeeded, IsNoOlder, known_as}
use Rattle.cell_contract.specs.declared.times.Known.{Known}
use Rattle.cell_contract.specs.declared.family.Family.{Ghosts as FamilyWords}
use Rattle.history_core.specs.declared.history.Kind.{Kind}
use Rattle.matrix_core.specs.declared.stamp.Stamp.{Stamp}
use Rattle.matrix_core.specs.Choices.{IsAtMost}
use Rattle.matrix_core.specs.Stamps.{first_stamp}
use Rattle.board_live.specs.declared.board.Board.{Board}
use Rattle.board_live.specs.declared.board.Pass.{Pass}
use Rattle.board_live.specs.declared.receipts.Receipt.{Receipt}
use Rattle.board_live.specs.declared.record.Posted.{Posted}
use Rattle.board_live.specs.Passes.{IsCall, IsKnown}
use Rattle.board_live.specs.Receipts.{HasLearnt, HasTold}
use Rattle.theorem_uses.proofs.Following.{not_first}

last_of : {A : Type 0} (P : A → Type 0) (xs : List A) (x : A) → All P (xs ++ x ∷ []) → P x
last_of P [] x h = All-head P x [] h
last_of P (y ∷ ys) x h = last_of P ys x (All-tail P y (ys ++ x ∷ []) h)

module _ {V F S T : Type 0} (words : FamilyWords F (Posted V) S T) (board : Board V F S T) where
  pub answer_written : (obeys : V → Bool) (kind : Kind) (w w' r r1 r2 : Pass V F S T) (receipt : Receipt V F S T) (seen : Posted V) →
      board.processes ≡ 2 → w.process ≡ 0 → r.process ≡ 1 → r.own.stamp ≡ first_stamp → 0 < w.own.stamp.tag →
      HasTold words board w w' receipt → words.writes w'.seat 1 ≡ words.writes w.seat 1 → HasLearnt words r r1 receipt →
      r1.process ≡ r.process → r1.own ≡ r.own → IsCall words obeys board kind r1 r2 seen → IsKnown words board r1 r2 seen →
      IsNoOlder board.first (words.writes w'.seat 1).items seen
  answer_written obeys kind w w' r r1 r2 receipt seen two is_w is_r unread tag told kept learnt same own call known =
      let from : receipt.from ≡ 0 = told.from ∙ is_w in
      let inside : 0 < board.processes = omega (arith, two) in
      let apart : 0 ≢ r1.process = λ e. let z = e ∙ same ∙ is_r in omega arith in
      let heard = learnt.heard (λ e. let z = sym from ∙ e ∙ is_r in omega arith) in
      elim known [
        | inl mine ↦
            let all : All (λ t. IsAtMost t.stamp seen.stamp) (words.reads r1.seat 0).told = call.heeds 0 inside apart in
            let list : (words.reads r1.seat 0).told ≡ (words.reads r.seat 0).told ++ receipt.item ∷ [] =
            subst (λ j. (words.reads r1.seat j).told ≡ (words.reads r.seat j).told ++ receipt.item ∷ []) from heard.told in
            let low = last_of (λ t. IsAtMost t.stamp seen.stamp) (words.reads r.seat 0).told receipt.item
            (subst (All (λ t. IsAtMost t.stamp seen.stamp)) list all) in
            let first : seen.stamp ≡ first_stamp = ap (λ z. z.stamp) (mine ∙ own) ∙ unread in
            absurd (not_first receipt.item.stamp (subst (λ (z : Posted V). 0 < z.stamp.tag) (sym told.names) tag)
            (subst (IsAtMost receipt.item.stamp) first low))
        | inr other ↦
            let j : ℕ = other.0 in
            let number : ℕ = other.1 in
            let writer : j ≡ 0 = let a = other.2 in let b = λ (e : j ≡ 1). other.3 (e ∙ sym (same ∙ is_r)) in
            below j (omega (arith, two)) b in
            let carried : Known (Posted V) = words.writes_of receipt.told r.process in
            let list : (words.reads r2.seat 0).heard ≡ (words.reads r.seat 0).heard ++ carried ∷ [] = (call.heard 0 inside apart).same
            ∙ subst (λ z. (words.reads r1.seat z).heard ≡ (words.reads r.seat z).heard ++ carried ∷ []) from heard.heard in
            let known_then : Known (Posted V) = (words.reads r2.seat 0).known in
            let all : All (λ t. IsHeeded t known_then number) (words.reads r2.seat 0).heard =
            subst (λ z. All (λ t. IsHeeded t (words.reads r2.seat z).known number) (words.reads r2.seat z).heard) writer other.5 in
            let one : IsHeeded carried known_then number =
            last_of (λ t. IsHeeded t known_then number) (words.reads r.seat 0).heard carried
            (subst (All (λ t. IsHeeded t known_then number)) list all) in
            let here : carried ≡ known_as (words.writes w'.seat 1).items (words.writes w'.seat 1).times =
            ap (words.writes_of receipt.told) is_r ∙ told.tells 1 (omega (arith, two)) (λ e. let z = e ∙ is_w in omega arith)
            ∙ ap (λ x. known_as x.items x.times) (sym kept) in
            let heeded = subst (λ z. IsHeeded z known_then number) here one in
            let at : slice_get (board.first ∷ known_then.items) number ≡ Some seen =
            subst (λ z. slice_get (board.first ∷ (words.reads r2.seat z).known.items) number ≡ Some seen) writer other.4 in (
              heeded.first.items.0,
              number,
              heeded.later,
              subst (λ z. slice_get (board.first ∷ z) number ≡ Some seen) heeded.first.items.1 at,
            )
      ]
    where
      below : (j : ℕ) → j < 2 → (j ≡ 1 → ⊥) → j ≡ 0
      below j l ne = grind arith
