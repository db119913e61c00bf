-- Of a board's run so far: what a call chose that has ended is the opening, or the record of a write, which may be cut off.
use Rattle.std.proofs.Common.{◌≡◌, ℕ, ◌<◌, List, slice_get, Option, Some, sym, ◌∙◌, ap, inl, inr}
use Rattle.std.proofs.lemmas.Option.{none-some, same_Some}
use Rattle.history_core.specs.declared.history.Op.{Op}
use Rattle.history_core.specs.declared.history.Kind.TheVariants.{Write}
use Rattle.matrix_core.specs.declared.stamp.Stamp.{Stamp}
use Rattle.matrix_core.specs.declared.stamp.Stamped.{Stamped}
use Rattle.matrix_core.specs.Choices.{Choice, HasChoices, IsChoiceOf, IsEarlier, IsIn}
use Rattle.matrix_core.specs.Lines.{first_record}
use Rattle.matrix_core.proofs.choices.Rise.{have_writes}
use Rattle.board_history.specs.BoardRuns.{Called, Did}
use Rattle.board_history.specs.Histories.{ChoseFrom}
use Rattle.board_history.specs.HistoriesSoFar.{IsOpOfCallSoFar, IsHistorySoFar}
use Rattle.board_history.specs.BoardRuns.{end_of}
use Rattle.board_history.specs.RunsSoFar.{IsBoardRunSoFar}
use Rattle.board_history.proofs.Atomic.{choices_there}
use Rattle.board_history.proofs.There.{all_there}

same_record : {V : Type 0} (a b : Stamped V) → a.stamp ≡ b.stamp → a.item ≡ b.item → a ≡ b
same_record {V} a b s i = ap (λ (z : Stamp × V). record { stamp = z.0; item = z.1 }) (λ k. (s k, i k))

module _ {V : Type 0} (width n limit : ℕ) (opening : V) (did : ℕ → Did V) (ops : List (Op V)) (stamps : List (Option Stamp))
    (h : IsHistorySoFar width n did ops stamps) (choices : List (Choice V)) (x : HasChoices opening limit ops stamps choices) where
  -- the choice of a call that has ended
  choice_of : (i k end : ℕ) (c : Called V) → i < n → slice_get (did i).calls k ≡ Some c → end_of width n (did i) k c ≡ Some end →
      (d : Choice V) × IsIn d choices × (d.stamp ≡ c.chosen.stamp) × (d.item ≡ c.chosen.item)
  choice_of i k end c l e at_end =
      let w = h.all i k c l e in
      let op : Op V = w.1 in
      let who : op.who ≡ i = w.5 in
      let call : IsOpOfCallSoFar width n did op w.2 k = w.6 in
      let made : call.call ≡ c = same_Some call.call c (sym call.made ∙ ap (λ j. slice_get (did j).calls k) who ∙ e) in
      let ends : op.ends ≡ Some end = call.ends ∙ (λ z. end_of width n (did (who z)) k (made z)) ∙ at_end in
      let d = x.finished w.0 end op w.3 ends in
      let is : IsChoiceOf ops stamps d.0 = x.each d.0 d.1 in
      let same : is.op ≡ op = same_Some is.op op (sym is.there ∙ ap (slice_get ops) d.2 ∙ w.3) in (
        d.0,
        d.1,
        same_Some d.0.stamp c.chosen.stamp
            (same_Some (Some d.0.stamp) w.2 (sym is.reported ∙ ap (slice_get stamps) d.2 ∙ w.4) ∙ call.stamp
            ∙ ap (λ z. Some z.chosen.stamp) made),
        same_Some d.0.item c.chosen.item
            (sym (is.ended end (ap (λ z. z.ends) same ∙ ends)) ∙ ap (λ z. z.item) same ∙ call.item ∙ ap (λ z. Some z.chosen.item) made),
      )

  -- the call of a write among the choices
  write_of : (w : Choice V) → IsIn w choices → w.kind ≡ Write →
      (j : ℕ) × (m : ℕ) × (c : Called V) × (j < n) × (slice_get (did j).calls m ≡ Some c) × (c.kind ≡ Write)
      × (w.stamp ≡ c.chosen.stamp) × (w.item ≡ c.chosen.item)
  write_of w m kind =
      let is : IsChoiceOf ops stamps w = x.each w m in
      elim (h.each w.place is.op (Some w.stamp) is.there is.reported) [
        | inl (k, call) ↦ (
          is.op.who,
          k,
          call.call,
          call.who,
          call.made,
          sym call.kind ∙ is.same_kind ∙ kind,
          same_Some w.stamp call.call.chosen.stamp call.stamp,
          same_Some w.item call.call.chosen.item (sym (is.written kind) ∙ call.item),
        )
        | inr u ↦ absurd (none-some w.stamp (sym u.stamp))
      ]

  written_by : (i k end : ℕ) (c : Called V) → i < n → slice_get (did i).calls k ≡ Some c → end_of width n (did i) k c ≡ Some end →
      ChoseFrom n (first_record opening) did c
  written_by i k end c l e at_end =
      let d = choice_of i k end c l e at_end in
      elim (have_writes (IsEarlier ops) opening limit choices x.law d.0 d.1) [
        | inl f ↦ inl (same_record c.chosen (first_record opening) (sym d.2 ∙ f.0) (sym d.3 ∙ f.1))
        | inr w ↦
            let v = write_of w.0 w.1 w.2 in
            inr (
              v.0,
              v.1,
              v.2,
              v.3,
              v.4,
              v.5,
              same_record c.chosen v.2.chosen (sym d.2 ∙ sym w.3 ∙ v.6) (sym d.3 ∙ sym w.4 ∙ v.7),
            )
      ]

module _ {V : Type 0} (width n limit : ℕ) (opening : V) (steps : List ℕ) (did : ℕ → Did V)
    (run : IsBoardRunSoFar width n limit (first_record opening) steps did) where
  pub written_so_far : (i k end : ℕ) (c : Called V) → i < n → slice_get (did i).calls k ≡ Some c → end_of width n (did i) k c ≡ Some end →
      ChoseFrom n (first_record opening) did c
  written_so_far =
      let there = all_there width n limit opening steps did run in
      let x = choices_there width n limit opening steps did run there.0 there.1 there.3 in
      written_by width n limit opening did there.0 there.1 there.3 x.0 x.1
