-- One step of a board, of a read or of a write: its cells stay the traces of their steps, and its processes where they are to be.
use Rattle.std.proofs.Common.{◌≡◌, ℕ, ◌+◌, ◌-◌, ◌*◌, ◌<◌, ◌≤◌, List, [], ◌∷◌, ◌++◌, length, slice_get, Some, arith, inl, inr}
use Rattle.std.proofs.lemmas.Bool.{cases_lt}
use Rattle.history_core.specs.declared.wish.Wish.{Wish}
use Rattle.history_core.specs.Schedules.{planned, Span, steps_of}
use Rattle.matrix_core.specs.declared.stamp.Stamped.{Stamped}
use Rattle.matrix_core.specs.declared.progress.Progress.{Progress}
use Rattle.matrix_core.specs.declared.progress.Outcome.{Outcome}
use Rattle.composed_play.specs.BoardEvents.{after_event, Board, board_size}
use Rattle.matrix_core.proofs.lists.Elements.{get_exists}
use Rattle.composed_play.proofs.boards.ColumnSteps.{column_step}
use Rattle.composed_play.proofs.boards.RowSteps.{row_step}
use Rattle.composed_play.proofs.boards.Traces as base

module _ {R : Type 0} (at : ℕ) (span : Span R) (opening noise : R) (two : 2 ≤ length span.plans)
    (accesses : span.accesses ≡ (2 * (length span.plans - 1)) * 5) (chosen : ℕ → ℕ → Stamped R) (outcomes : ℕ → ℕ → Outcome R) where
  abbrev n : ℕ
  n = length span.plans

  abbrev a : ℕ
  a = span.accesses

  abbrev ch : ℕ
  ch = (n - 2) * 5 + 4

  abbrev IsLineAt : List ℕ → ℕ → Progress R → Type 0
  IsLineAt done i line = base.IsLineAt at span opening noise two accesses chosen outcomes done i line

  abbrev IsAt : List ℕ → Board R → Type 0
  IsAt done b = base.IsAt at span opening noise two accesses chosen outcomes done b

  -- one step
  pub board_step : (done : List ℕ) (s : ℕ) (b : Board R) (w : Wish R) → s < n → IsAt done b →
      ((k : ℕ) → steps_of s done ≡ k * a → planned span s k ≡ Some w)
      → ((k : ℕ) (x : Progress R) → steps_of s done ≡ k * a + ch → slice_get (after_event b s w).lines s ≡ Some x →
      (chosen s k ≡ x.own) × (outcomes s k ≡ x.outcome)) → IsAt (done ++ s ∷ []) (after_event b s w)
  board_step done s b w ls h wished picks =
      let sz : board_size b ≡ n = h.size in
      let x = get_exists b.lines s (omega arith) in
      let hl : IsLineAt done s x.0 = h.lines s x.0 x.1 in
      elim (cases_lt ch hl.r) [
        | inl phase ↦ row_step at span opening noise two accesses chosen outcomes done s b w x.0 ls h x.1 hl phase
        | inr phase ↦ column_step at span opening noise two accesses chosen outcomes done s b w x.0 ls h x.1 hl phase wished picks
      ]
