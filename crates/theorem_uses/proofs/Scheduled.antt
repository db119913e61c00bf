-- An atomic run has one schedule, in which each call is an operation; and it ends with the greatest record.
use Rattle.std.proofs.Common.{◌≡◌, ℕ, ◌<◌, List, [], slice_get, Option, Some, sym, ◌∙◌, ap, refl}
use Rattle.std.proofs.lemmas.Option.{same_Some}
use Rattle.history_core.specs.declared.history.Op.{Op}
use Rattle.matrix_core.specs.declared.stamp.Stamp.{Stamp}
use Rattle.cell_contract.specs.declared.family.Family.{Ghosts as FamilyWords}
use Rattle.board_history.specs.BoardRuns.{Called, Did}
use Rattle.board_history.specs.Histories.{IsOpOfCall}
use Rattle.board_live.specs.declared.record.Posted.{Posted}
use Rattle.theorem_uses.specs.Boards.{ComesOfOneSchedule, EndsWithTheGreatest}

module _ {V F S T : Type 0} (words : FamilyWords F (Posted V) S T) where
  pub ends_with_the_greatest : EndsWithTheGreatest words
  ends_with_the_greatest board did last h = ((h.greatest.process, h.greatest.inside, h.greatest.own), h.greatest.greatest)

  -- the call of an operation is that of its process at its number
  the_call : (n : ℕ) (did : ℕ → Did V) (op : Op V) (stamp : Option Stamp) (i k : ℕ) (call : Called V) → IsOpOfCall n did op stamp k →
      op.who ≡ i → slice_get (did i).calls k ≡ Some call → (stamp ≡ Some call.chosen.stamp) × (op.kind ≡ call.kind)
      × (op.item ≡ Some call.chosen.item) × (op.starts ≡ call.begin) × (op.ends ≡ Some call.end)
  the_call n did op stamp i k call h who at =
      let is : h.call ≡ call = same_Some h.call call (sym h.made ∙ ap (λ z. slice_get (did z).calls k) who ∙ at) in (
        h.stamp ∙ ap (λ (z : Called V). Some z.chosen.stamp) is,
        h.kind ∙ ap (λ (z : Called V). z.kind) is,
        h.item ∙ ap (λ (z : Called V). Some z.chosen.item) is,
        h.begins ∙ ap (λ (z : Called V). z.begin) is,
        h.ends ∙ ap (λ (z : Called V). Some z.end) is,
      )

  pub of_one_schedule : ComesOfOneSchedule words
  of_one_schedule board did last i k call h inside at =
      let a = h.history.all i k call inside at in
      let is = the_call board.processes did a.1 a.2 i k call a.6 a.5 at in
      ((h.steps, h.run), (a.0, a.1, h.ops, h.stamps, h.history, a.3, a.4 ∙ ap Some is.0, a.5, is.1, is.2, is.3, is.4))
