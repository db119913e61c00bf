-- After the order of a board's run the register holds the greatest record that any process has: a process's stamps never fall, so the
-- greatest of what was chosen is what some process chose last.
use Rattle.std.proofs.Common.{◌≡◌, ℕ, suc, ◌+◌, ◌-◌, ◌<◌, List, length, slice_get}
use Rattle.std.proofs.Common.{Option, Some, sym, ◌∙◌, ap, subst, arith, inl, inr}
use Rattle.std.proofs.lemmas.Bool.{cases_eq}
use Rattle.std.proofs.lemmas.Option.{same_Some, slice_get_within}
use Rattle.history_core.specs.declared.history.Op.{Op}
use Rattle.history_core.specs.Orders.{latest}
use Rattle.matrix_core.specs.declared.stamp.Stamp.{Stamp}
use Rattle.matrix_core.specs.declared.stamp.Stamped.{Stamped}
use Rattle.matrix_core.specs.Choices.{Choice, HasChoices, IsAtMost, IsChoiceOf, IsFrom}
use Rattle.matrix_core.proofs.choices.Stamps.{at_most_trans}
use Rattle.matrix_core.specs.Lines.{first_record}
use Rattle.matrix_core.specs.Listings.{IsInOrder}
use Rattle.matrix_core.proofs.lists.Elements.{get_exists}
use Rattle.matrix_core.proofs.orders.Terms.{term_last}
use Rattle.board_history.specs.BoardRuns.{Called, Did, IsBoardRun, own_before}
use Rattle.board_history.specs.Histories.{IsOpOfCall, IsGreatestOwn, IsHistory, own_after}
use Rattle.board_history.proofs.Rising.{own_next, own_zero}
use Rattle.board_history.proofs.Whole.{choices_there, own_rises}

module _ {V : Type 0} (width n limit : ℕ) (opening : V) (steps : List ℕ) (did : ℕ → Did V)
    (run : IsBoardRun width n limit (first_record opening) steps did) where
  -- what a call chose isn't above what its process has after its calls
  pub chosen_below : (i k : ℕ) (c : Called V) → i < n → slice_get (did i).calls k ≡ Some c →
      IsAtMost c.chosen.stamp (own_after (first_record opening) (did i)).stamp
  chosen_below i k c l e =
      let first : Stamped V = first_record opening in
      let m : k < length (did i).calls = slice_get_within (did i).calls k c e in
      let up : IsAtMost (own_before first (did i).calls (suc k)).stamp
      (own_before first (did i).calls (suc k + (length (did i).calls - suc k))).stamp =
      own_rises width n limit opening steps did run i (suc k) (length (did i).calls - suc k) l (omega arith) in
      let all : suc k + (length (did i).calls - suc k) ≡ length (did i).calls = omega arith in
      subst (λ z. IsAtMost z.stamp (own_after first (did i)).stamp) (own_next first (did i).calls k c e)
      (subst (λ m. IsAtMost (own_before first (did i).calls (suc k)).stamp (own_before first (did i).calls m).stamp) all up)

  module _ (ops : List (Op V)) (stamps : List (Option Stamp)) (h : IsHistory n did ops stamps) where
    -- the call at a choice's place
    at_choice : (c : Choice V) → IsChoiceOf ops stamps c → (i : ℕ) × (k : ℕ) × (d : Called V)
        × (i < n) × (slice_get (did i).calls k ≡ Some d)
        × (d.chosen.stamp ≡ c.stamp)
    at_choice c is =
        let w = h.each c.place is.op (Some c.stamp) is.there is.reported in
        (is.op.who, w.0, w.1.call, w.1.who, w.1.made, same_Some w.1.call.chosen.stamp c.stamp (sym w.1.stamp))

    -- what a process has after its calls was chosen, or is the opening
    own_from : (choices : List (Choice V)) → HasChoices opening limit ops stamps choices → (i : ℕ) → i < n →
        IsFrom opening choices (own_after (first_record opening) (did i)).stamp (own_after (first_record opening) (did i)).item
    own_from choices x i l = elim (cases_eq (length (did i).calls) 0) [
      | inl e ↦
          let none : own_after (first_record opening) (did i) ≡ first_record opening =
          ap (own_before (first_record opening) (did i).calls) e ∙ own_zero (first_record opening) (did i).calls in
          inl (ap (λ z. z.stamp) none, ap (λ z. z.item) none)
      | inr ne ↦
          let k : ℕ = length (did i).calls - 1 in
          let c = get_exists (did i).calls k (omega arith) in
          let last : own_after (first_record opening) (did i) ≡ c.0.chosen =
          ap (own_before (first_record opening) (did i).calls) (let e : length (did i).calls ≡ suc k = omega arith in e)
          ∙ own_next (first_record opening) (did i).calls k c.0 c.1 in
          let w = h.all i k c.0 l c.1 in
          let call : IsOpOfCall n did w.1 w.2 k = w.6 in
          let made : call.call ≡ c.0 = same_Some call.call c.0 (sym call.made ∙ ap (λ j. slice_get (did j).calls k) w.5 ∙ c.1) in
          let end = ended i k w.1 w.2 l w.5 call in
          let d = x.finished w.0 end.0 w.1 w.3 end.1 in
          let is : IsChoiceOf ops stamps d.0 = x.each d.0 d.1 in
          let same_op : is.op ≡ w.1 = same_Some is.op w.1 (sym is.there ∙ ap (slice_get ops) d.2 ∙ w.3) in
          let reported : Some (Some d.0.stamp) ≡ Some w.2 = sym is.reported ∙ ap (slice_get stamps) d.2 ∙ w.4 in
          let stamp : d.0.stamp ≡ c.0.chosen.stamp = same_Some d.0.stamp c.0.chosen.stamp
          (same_Some (Some d.0.stamp) w.2 reported ∙ call.stamp ∙ ap (λ z. Some z.chosen.stamp) made) in
          let item : d.0.item ≡ c.0.chosen.item = same_Some d.0.item c.0.chosen.item
          (sym (is.ended end.0 (ap (λ o. o.ends) same_op ∙ end.1)) ∙ ap (λ o. o.item) same_op ∙ call.item
          ∙ ap (λ z. Some z.chosen.item) made) in
          inr (d.0, d.1, stamp ∙ ap (λ z. z.stamp) (sym last), item ∙ ap (λ z. z.item) (sym last))
    ]
      where
        ended : (i k : ℕ) (op : Op V) (stamp : Option Stamp) → i < n → op.who ≡ i → IsOpOfCall n did op stamp k →
            (end : ℕ) × (op.ends ≡ Some end)
        ended i k op stamp l who call = (call.call.end, call.ends)

    pub history_last : (order : List ℕ) (last : Stamped V) → IsInOrder ops stamps order → IsGreatestOwn n (first_record opening) did last →
        latest opening ops order ≡ Some last.item
    history_last order last is g =
        let x = choices_there width n limit opening steps did run ops stamps h in
        let from : IsFrom opening x.0 last.stamp last.item = subst (λ z. IsFrom opening x.0 z.stamp z.item) (sym g.own)
        (own_from x.0 x.1 g.process g.inside) in
        term_last opening limit ops stamps x.0 order x.1 is h.long h.rising last.stamp last.item (
          from,
          λ c m.
              let w = at_choice c (x.1.each c m) in
              at_most_trans c.stamp (own_after (first_record opening) (did w.0)).stamp last.stamp
              (subst (λ z. IsAtMost z (own_after (first_record opening) (did w.0)).stamp) w.5 (chosen_below w.0 w.1 w.2 w.3 w.4))
              (g.greatest w.0 w.3),
        )
