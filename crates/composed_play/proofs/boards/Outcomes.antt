-- What the operations of a board are to answer, by their process's progress after the step that chooses.
use Rattle.std.specs.Prelude.{ℕ, ◌+◌, ◌-◌, take, slice_get, Option, None, Some}
use Rattle.history_core.specs.Schedules.{Span}
use Rattle.matrix_core.specs.declared.progress.Outcome.{Outcome}
use Rattle.matrix_core.specs.declared.progress.Outcome.TheVariants.{Seen}
use Rattle.matrix_core.specs.Lines.{first_record}
use Rattle.matrix_core.specs.ByAccesses.{chooses_at}
use Rattle.matrix_core.proofs.terms.Kinds.{outcome_or}
use Rattle.composed_play.specs.BoardSteps.{board_after}

module _ {R : Type 0} where
  abbrev pub outcome_at : Span R → R → R → ℕ → ℕ → Option ℕ → Outcome R
  outcome_at span opening noise at i None = Seen (first_record opening)
  outcome_at span opening noise at i (Some p) =
      outcome_or opening (slice_get (board_after span opening noise (take (p + 1 - at) span.steps)).lines i)

  -- what operation k of process i is to answer
  abbrev pub outcome_in : ℕ → Span R → R → R → ℕ → ℕ → Outcome R
  outcome_in at span opening noise i k = outcome_at span opening noise at i (chooses_at at span 5 i k)
