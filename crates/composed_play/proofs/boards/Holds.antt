-- At the end of a term of a composed board each process holds what it chose last, or the opening; so the greatest record held is the
-- greatest that was chosen.
use Rattle.std.proofs.Common.{◌≡◌, ℕ, suc, ◌+◌, ◌-◌, ◌*◌, ◌<◌, ◌≤◌, List, length, slice_get, Option, Some, ◌∙◌, ap, arith, inl, inr}
use Rattle.std.proofs.lemmas.Bool.{cases_lt}
use Rattle.history_core.specs.declared.history.Op.{Op}
use Rattle.history_core.specs.Schedules.{Span, steps_of}
use Rattle.four_slot_core.specs.Traces.{source_record}
use Rattle.matrix_core.specs.declared.stamp.Stamp.{Stamp}
use Rattle.matrix_core.specs.declared.stamp.Stamped.{Stamped}
use Rattle.matrix_core.specs.declared.progress.Progress.{Progress}
use Rattle.matrix_core.specs.ByAccesses.{IsCut}
use Rattle.matrix_core.specs.Choices.{Choice, HasChoices, IsGreatestChoice}
use Rattle.matrix_core.specs.Lines.{first_record}
use Rattle.matrix_core.specs.inner.Operations.{greatest_own}
use Rattle.composed_play.specs.BoardEvents.{Board}
use Rattle.composed_play.specs.BoardSteps.{chosen_in}
use Rattle.composed_play.proofs.boards.Outcomes.{outcome_in}
use Rattle.composed_play.proofs.boards.Traces.{IsAt, IsLineAt}
use Rattle.matrix_core.proofs.choices.ByAccesses.{HasRecords}
use Rattle.matrix_core.proofs.choices.Greatest.{greatest_chosen as greatest_of_lines}
use Rattle.matrix_core.proofs.choices.Made.{IsMade, made_past, made_so_far}

module _ {R : Type 0} (at : ℕ) (span : Span R) (opening noise : R) (cut : IsCut 5 span) (b : Board R)
    (h : IsAt at span opening noise cut.at_least cut.accesses (chosen_in at span opening noise)
    (outcome_in at span opening noise) span.steps b)
    (ops : List (Op R)) (stamps : List (Option Stamp)) (choices : List (Choice R)) (has : HasChoices opening span.limit ops stamps choices)
    (records : HasRecords at span 5 (chosen_in at span opening noise) choices) where
  abbrev chosen : ℕ → ℕ → Stamped R
  chosen = chosen_in at span opening noise

  abbrev ch : ℕ
  ch = (length span.plans - 2) * 5 + (5 - 1)

  holds : (i : ℕ) (line : Progress R) → slice_get b.lines i ≡ Some line → (count : ℕ)
      × IsMade span.accesses ch (steps_of i span.steps) count × (line.own ≡ source_record (first_record opening) (chosen i) count)
  holds i line e =
      let l : IsLineAt at span opening noise cut.at_least cut.accesses chosen (outcome_in at span opening noise) span.steps i
      line = h.lines i line e in
      let inside : l.r < span.accesses = l.inside in
      let two : 2 ≤ length span.plans = cut.at_least in
      let acs : span.accesses ≡ (2 * (length span.plans - 1)) * 5 = cut.accesses in
      elim (cases_lt ch l.r) [
        | inl late ↦ (
          l.k + 1,
          made_past span.accesses ch (steps_of i span.steps) l.k l.r l.steps late (omega arith),
          l.late late ∙ (let s : suc l.k ≡ l.k + 1 = omega arith in ap (source_record (first_record opening) (chosen i)) s),
        )
        | inr early ↦ (l.k, made_so_far span.accesses ch (steps_of i span.steps) l.k l.r l.steps early (omega arith), l.early early)
      ]

  pub greatest_chosen : IsGreatestChoice opening choices (greatest_own (first_record opening) b.lines).stamp
      (greatest_own (first_record opening) b.lines).item
  greatest_chosen = greatest_of_lines at 5 span opening ops stamps chosen choices has records b.lines h.size holds
