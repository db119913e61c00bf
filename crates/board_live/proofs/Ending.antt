-- What the end of a board rests on: the greatest of the own records, and the seats in their order.
use Rattle.std.proofs.Common.{◌≡◌, ℕ, ◌+◌, ◌<◌, ◌≤◌, List, [], ◌∷◌, ◌++◌, length, slice_get, Some}
use Rattle.std.proofs.Common.{refl, sym, ◌∙◌, ap, subst, arith, length-append, inl, inr}
use Rattle.std.specs.Prelude.{vec_capacity}
use Rattle.std.proofs.lemmas.Bool.{cases_lt}
use Rattle.std.proofs.lemmas.Option.{same_Some}
use Rattle.history_core.proofs.Places.{get_last}
use Rattle.matrix_core.specs.Choices.{IsAtMost}
use Rattle.matrix_core.specs.Stamps.{IsBelow}
use Rattle.matrix_core.proofs.choices.Stamps.{at_most_below, at_most_trans, greater_first, greater_second}
use Rattle.board_live.specs.declared.board.Pass.{Pass}
use Rattle.board_live.specs.declared.record.Posted.{Posted}
use Rattle.board_live.specs.inner.Room.{HaveRoom}
use Rattle.board_live.specs.Records.{greater, stamped}
use Rattle.board_live.proofs.Records.{either_greater, stamped_greater}

module _ {V F S T : Type 0} where
  -- the last pass has the room
  pub room_of_last : (passes left : List (Pass V F S T)) (last : Pass V F S T) → passes ≡ left ++ last ∷ [] → HaveRoom passes →
      (length passes ≡ length left + 1) × (length passes ≤ vec_capacity last.room) × (last.room.items ≡ [])
  room_of_last passes left last e room =
      let n : length passes ≡ length left + 1 = ap length e ∙ length-append left (last ∷ []) in
      let r = room (length left) last (ap (λ ps. slice_get ps (length left)) e ∙ get_last left last (length left) refl) (sym n) in
      (n, r.0, r.1)

  -- the greatest of the first passes
  pub record IsGreatestSoFar (passes : List (Pass V F S T)) (count : ℕ) (last : Posted V) : Type 0 where
    pub process : ℕ
    pub pass : Pass V F S T
    pub there : slice_get passes process ≡ Some pass
    pub own : last ≡ pass.own
    pub greatest : (i : ℕ) (p : Pass V F S T) → i < count → slice_get passes i ≡ Some p → IsAtMost p.own.stamp last.stamp
    pub earliest : (i : ℕ) (p : Pass V F S T) → i < process → slice_get passes i ≡ Some p → IsBelow p.own.stamp last.stamp

  pub first_is : (passes : List (Pass V F S T)) (pass : Pass V F S T) → slice_get passes 0 ≡ Some pass → IsGreatestSoFar passes 0 pass.own
  first_is passes pass there = record {
    process = 0;
    pass = pass;
    there = there;
    own = refl;
    greatest = λ i p l h. absurd (omega arith);
    earliest = λ i p l h. absurd (omega arith);
  }

  pub greatest_more : (passes : List (Pass V F S T)) (count : ℕ) (last last' : Posted V) (next : Pass V F S T) →
      IsGreatestSoFar passes count last → slice_get passes count ≡ Some next → last' ≡ greater last next.own →
      IsGreatestSoFar passes (count + 1) last'
  greatest_more passes count last last' next h there e =
      let first : IsAtMost last.stamp last'.stamp = subst (λ z. IsAtMost last.stamp z.stamp) (sym e)
      (subst (λ z. IsAtMost last.stamp z.stamp) (sym (stamped_greater last next.own)) (greater_first (stamped last) (stamped next.own))) in
      let second : IsAtMost next.own.stamp last'.stamp = subst (λ z. IsAtMost next.own.stamp z.stamp) (sym e)
      (subst (λ z. IsAtMost next.own.stamp z.stamp) (sym (stamped_greater last next.own))
      (greater_second (stamped last) (stamped next.own))) in
      let all : (i : ℕ) (p : Pass V F S T) → i < count + 1 → slice_get passes i ≡ Some p → IsAtMost p.own.stamp last'.stamp = λ i p l at.
      elim (cases_lt i count) [
        | inl lt ↦ at_most_trans p.own.stamp last.stamp last'.stamp (h.greatest i p lt at) first
        | inr ge ↦
            let same : p ≡ next = same_Some p next (sym at ∙ ap (slice_get passes) (let z : i ≡ count = omega arith in z) ∙ there) in
            subst (λ (z : Pass V F S T). IsAtMost z.own.stamp last'.stamp) (sym same) second
      ] in
      elim (either_greater last next.own) [
        | inl a ↦ record {
          process = h.process;
          pass = h.pass;
          there = h.there;
          own = e ∙ a ∙ h.own;
          greatest = all;
          earliest = λ i p l at. subst (λ z. IsBelow p.own.stamp z.stamp) (sym (e ∙ a)) (h.earliest i p l at);
        }
        | inr b ↦ record {
          process = count;
          pass = next;
          there = there;
          own = e ∙ b.0;
          greatest = all;
          earliest = λ i p l at. subst (λ z. IsBelow p.own.stamp z.stamp) (sym (e ∙ b.0))
              (at_most_below p.own.stamp last.stamp next.own.stamp (h.greatest i p l at) b.1);
        }
      ]
