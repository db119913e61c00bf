-- Where the four words of a cell lie in its table: the writer's words and the reader's have 64 bytes between them, and
-- as many before and after them, so no cache line has words of both sides, or a word and what lies beside the table.
use Rattle.std.specs.Prelude.{◌≡◌, ℕ, zero, suc, ◌+◌, List, [], ◌∷◌, length, slice_index}
use Rattle.atomic_table.specs.Table.{State}
use Rattle.cell_four_slot.specs.Rule.{FourSlotRule}
use Rattle.cell_four_slot.specs.Steps.{FourSlotSight}

abbrev pub word_place : ℕ → ℕ
word_place zero = 8
word_place (suc zero) = 24
word_place (suc (suc i)) = 10 + i

abbrev pub gathered : List ℕ → List ℕ
gathered ws = slice_index ws 8 ∷ slice_index ws 24 ∷ slice_index ws 10 ∷ slice_index ws 11 ∷ []

abbrev pub cell_state : {S V : Type 0} → State S V → State S V
cell_state s = record { words = gathered s.words; homes = s.homes; views = s.views }

-- the rule of the table: that of the cell, of its four words
pub record SpreadRule {T : Type 0} (fits : T → Type 0) (rises : T → T → Type 0) (o : T)
    (s : State T (FourSlotSight T)) : Type 0 where
  pub counted : length s.words ≡ 32
  pub cell : FourSlotRule fits rises o (cell_state s)
