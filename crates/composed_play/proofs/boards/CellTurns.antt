-- Whose step of a cell an event is: what a step of its writer and of its reader says of the process and of the access.
use Rattle.std.proofs.Common.{◌≡◌, ◌≢◌, ℕ, ◌-◌, ◌*◌, ◌/◌, ◌<◌, ◌≤◌, Option, None, Some, true, false, refl, sym, ◌∙◌, ap, arith, inl, inr}
use Rattle.std.specs.Prelude.{nat_eq}
use Rattle.std.proofs.lemmas.Bool.{cases_Bool}
use Rattle.std.proofs.lemmas.Option.{none-some}
use Rattle.four_slot_core.specs.declared.schedule.Turn.{Turn}
use Rattle.four_slot_core.specs.declared.schedule.Turn.TheVariants.{Writer, Reader}
use Rattle.matrix_core.specs.Lines.{cell_place, other}
use Rattle.composed_play.specs.Boards.{Event, is_read_of, is_write_of, turn_in}
use Rattle.composed_play.proofs.boards.Cells.{both_true, first_turn, from_eq, from_le, from_lt, second_turn}

-- two cells at one place are one cell
pub same_reader : (n i j v w : ℕ) → i ≡ v → cell_place n i j ≡ cell_place n v w → j ≡ w
same_reader n i j v w e h = let m : i * n ≡ v * n = ap (λ z. z * n) e in omega arith

-- what the turns say
module _ (n i j : ℕ) where
  pub writer_means : (e : Event) → turn_in n i j e ≡ Some Writer →
      (e.who ≡ i) × (n - 1 ≤ e.number / 5) × (other i (e.number / 5 - (n - 1)) ≡ j)
  writer_means e h = elim (cases_Bool (is_write_of n i j e)) [
    | inl t ↦
        let w = both_true (nat_eq e.who i) _ t in
        let v = both_true _ _ w.1 in
        (from_eq e.who i w.0, from_le (n - 1) (e.number / 5) v.0, from_eq (other i (e.number / 5 - (n - 1))) j v.1)
    | inr f ↦ elim (cases_Bool (is_read_of n i j e)) [
      | inl t ↦ let z : Some Reader ≡ Some Writer = sym (second_turn n i j e true f t) ∙ h in cc
      | inr g ↦ absurd (none-some Writer (sym (second_turn n i j e false f g) ∙ h))
    ]
  ]

  pub reader_means : (e : Event) → turn_in n i j e ≡ Some Reader → (e.who ≡ j) × (e.number / 5 < n - 1) × (other j (e.number / 5) ≡ i)
  reader_means e h = elim (cases_Bool (is_write_of n i j e)) [
    | inl t ↦ let z : Some Writer ≡ Some Reader = sym (first_turn n i j e true t) ∙ h in cc
    | inr f ↦ elim (cases_Bool (is_read_of n i j e)) [
      | inl t ↦
          let w = both_true (nat_eq e.who j) _ t in
          let v = both_true _ _ w.1 in
          (from_eq e.who j w.0, from_lt (e.number / 5) (n - 1) v.0, from_eq (other j (e.number / 5)) i v.1)
      | inr g ↦ absurd (none-some Reader (sym (second_turn n i j e false f g) ∙ h))
    ]
  ]

  pub no_turn : (e : Event) → (turn_in n i j e ≢ Some Writer) → (turn_in n i j e ≢ Some Reader) → turn_in n i j e ≡ None
  no_turn e nw nr = by (turn_in n i j e) refl
    where
      by : (o : Option Turn) → turn_in n i j e ≡ o → turn_in n i j e ≡ None
      by None h = h
      by (Some Writer) h = absurd (nw h)
      by (Some Reader) h = absurd (nr h)
