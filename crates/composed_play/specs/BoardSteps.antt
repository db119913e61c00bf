-- The run of a composed board through the steps of a term: each step is the next event of its process, whose operation
-- does what is planned. This is this project's own.
use Rattle.std.specs.Prelude.{ℕ, ◌+◌, ◌-◌, ◌/◌, List, [], ◌∷◌, ◌++◌, length, take, slice_get, Option, None, Some}
use Rattle.history_core.specs.declared.wish.Wish.{Wish}
use Rattle.history_core.specs.declared.wish.Wish.TheVariants.{Read}
use Rattle.history_core.specs.Schedules.{planned, Span, steps_of}
use Rattle.matrix_core.specs.declared.stamp.Stamped.{Stamped}
use Rattle.matrix_core.specs.Lines.{first_record, own_or}
use Rattle.matrix_core.specs.ByAccesses.{chooses_at}
use Rattle.composed_play.specs.BoardEvents.{after_event, Board, opening_board}

module _ {R : Type 0} where
  abbrev pub wish_or_read : Option (Wish R) → Wish R
  wish_or_read None = Read
  wish_or_read (Some wish) = wish

  -- what the operation of the step of process `who` after these is to do
  abbrev pub wish_after : Span R → List ℕ → ℕ → Wish R
  wish_after span done who = wish_or_read (planned span who (steps_of who done / span.accesses))

  -- the board after more steps
  abbrev pub board_on : Span R → List ℕ → Board R → List ℕ → Board R
  board_on span done b [] = b
  board_on span done b (who ∷ steps) =
      board_on span (done ++ who ∷ []) (after_event b who (wish_after span done who)) steps

  -- the board after these first steps of a term
  abbrev pub board_after : Span R → R → R → List ℕ → Board R
  board_after span opening noise steps =
      board_on span [] (opening_board (length span.plans) span.limit opening noise) steps

  abbrev pub own_at : Span R → R → R → ℕ → ℕ → Option ℕ → Stamped R
  own_at span opening noise at i None = first_record opening
  own_at span opening noise at i (Some p) =
      own_or opening (slice_get (board_after span opening noise (take (p + 1 - at) span.steps)).lines i)

  -- what operation k of process i chose: its process's own record after the step that chooses
  abbrev pub chosen_in : ℕ → Span R → R → R → ℕ → ℕ → Stamped R
  chosen_in at span opening noise i k = own_at span opening noise at i (chooses_at at span 5 i k)
