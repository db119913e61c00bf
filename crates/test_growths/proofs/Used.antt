-- Lanes that have run, whose passes may be used on.
use Rattle.std.proofs.lemmas.Option.{same_Some, none-some}
use Rattle.std.proofs.Common.{arith, refl, sym, subst, zero, suc, ◌≡◌, length, take, drop}
use Rattle.std.specs.Prelude.{ℕ, Bool, List, [], ◌∷◌, ◌++◌, All, slice_get, Some}
use Rattle.std.proofs.lemmas.List.Elements.{All-nil, All-cons}
use Rattle.cell_contract.specs.declared.family.Family.{Ghosts as FamilyWords}
use Rattle.board_live.specs.declared.board.Board.{Board}
use Rattle.board_live.specs.declared.board.Pass.{Pass}
use Rattle.board_live.specs.declared.record.Posted.{Posted}
use Rattle.board_live.specs.Passes.{IsPass}
use Rattle.board_live.specs.Ends.{AllPasses}
use Rattle.board_tasks.specs.declared.lane.Lane.{Lane}
use Rattle.board_tasks.specs.Jobs.{AllReady, EachStep}
use Rattle.board_tasks.specs.Lanes.{IsLane}
use Rattle.board_tasks.specs.Tasks.{Ran}
use Rattle.board_tasks.proofs.Works.{changed_whole}

-- what holds of each element of a list after a change
pub all_after : {X : Type 0} (P : X → Type 0) (old new : List X) → length new ≡ length old
    → ((k : ℕ) (x y : X) → slice_get old k ≡ Some x → slice_get new k ≡ Some y → P y) → All P new
all_after P [] [] e each = All-nil P
all_after P [] (y ∷ ys) e each = absurd (omega (arith, e))
all_after P (x ∷ xs) [] e each = All-nil P
all_after P (x ∷ xs) (y ∷ ys) e each =
    All-cons P y ys (each 0 x y refl refl) (all_after P xs ys (omega (arith, e)) (λ k a b. each (suc k) a b))

-- what holds of the element of a list of one
pub only : {X : Type 0} (P : X → Type 0) (x : X) (k : ℕ) (y : X) → slice_get (x ∷ []) k ≡ Some y → P x → P y
only P x zero y e p = subst P (same_Some x y e) p
only P x (suc k) y e p = absurd (none-some y e)

-- the last element of a list stands after the others
pub at_end : {X : Type 0} (xs : List X) (x : X) → slice_get (xs ++ x ∷ []) (length xs) ≡ Some x
at_end [] x = refl
at_end (y ∷ ys) x = at_end ys x

-- what holds of each element of a list holds of the last and of those before it
last_and_others : {X : Type 0} (P : X → Type 0) (xs : List X) (x : X) → All P (xs ++ x ∷ []) → P x × All P xs
last_and_others P [] x all = (all 0 x (omega arith), All-nil P)
last_and_others P (y ∷ ys) x all =
    let rest = last_and_others P ys x (λ k d l. all (suc k) d (omega (arith, l))) in
    (rest.0, All-cons P y ys (all 0 y (omega arith)) rest.1)

module _ {V F S T : Type 0} (family : FamilyWords F (Posted V) S T) (obeys : V → Bool) (board : Board V F S T) where
  -- lanes that have run on a board still have its passes
  pub used_on : (may_call may_stop : ℕ → ℕ → Type 0) (n : ℕ) (old before new now : List (Lane V F S T))
      → n ≡ length old → before ≡ old → EachStep (Ran family obeys may_call may_stop board) 0 before new
      → now ≡ take n (new ++ drop (length new) old)
      → All (λ (l : Lane V F S T). IsPass family obeys board l.pass) now
  used_on may_call may_stop n old before new now count same ran changed =
      let Q : Lane V F S T → Type 0 = λ l. IsPass family obeys board l.pass in
      subst (All Q) (sym (changed_whole n old before new now count same ran.lengths changed))
      (all_after Q before new ran.lengths (λ k x y a b. (ran.each k x y a b).of))

  -- a lane that is taken out, and those that are left, have passes of the board
  pub taken_apart : (whole left : List (Lane V F S T)) (lane : Lane V F S T)
      → whole ≡ left ++ lane ∷ [] → All (λ (l : Lane V F S T). IsPass family obeys board l.pass) whole
      → IsPass family obeys board lane.pass × All (λ (l : Lane V F S T). IsPass family obeys board l.pass) left
  taken_apart whole left lane e all =
      let Q : Lane V F S T → Type 0 = λ l. IsPass family obeys board l.pass in
      last_and_others Q left lane (subst (All Q) e all)

  -- a lane of the last pass of a board may run alone
  pub one_ready : (passes rest : List (Pass V F S T)) (pass : Pass V F S T) (lane : Lane V F S T)
      → AllPasses family obeys board passes → passes ≡ rest ++ pass ∷ [] → (lane.pass ≡ pass) × IsLane obeys lane
      → AllReady (λ (l : Lane V F S T). IsPass family obeys board l.pass × IsLane obeys l) 0 (lane ∷ [])
  one_ready passes rest pass lane all e is =
      let Q : Lane V F S T → Type 0 = λ l. IsPass family obeys board l.pass × IsLane obeys l in
      let at : slice_get passes (length rest) ≡ Some pass = subst (λ z. slice_get z (length rest) ≡ Some pass) (sym e) (at_end rest pass) in
      let of : IsPass family obeys board lane.pass = subst (IsPass family obeys board) (sym is.0) (all.each (length rest) pass at).0 in
      record { fits = omega arith; each = λ k x h. only Q lane k x h (of, is.1) }
