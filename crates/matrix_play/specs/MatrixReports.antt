-- The report of a schedule over matrices of atomic cells: what each of its terms gave, one after the other, and what is
-- promised of it. This is this project's own.
use Rattle.std.specs.Prelude.{◌≡◌, ℕ, ◌+◌, List, [], ◌∷◌, ◌++◌, length, Option, Some}
use Rattle.history_core.specs.declared.history.Op.{Op}
use Rattle.history_core.specs.Joined.{ops_of, order_from, Part, terms_from}
use Rattle.history_core.specs.Orders.{IsAtomicOrder, latest, RefusesLawfully}
use Rattle.history_core.specs.Schedules.{HasShape, IsPlayed}
use Rattle.matrix_core.specs.declared.stamp.Stamp.{Stamp}
use Rattle.matrix_core.specs.declared.stamp.Stamped.{Stamped}
use Rattle.matrix_core.specs.Choices.{Choice, HasChoices}
use Rattle.matrix_core.specs.declared.schedule.MatrixTerm.{MatrixTerm}
use Rattle.matrix_core.specs.declared.schedule.MatrixSchedule.{MatrixSchedule}
use Rattle.matrix_core.specs.declared.schedule.MatrixReport.{MatrixReport}
use Rattle.matrix_core.specs.Runs.{span_of, spans_of}
use Rattle.matrix_core.specs.Listings.{IsInOrder}
use Rattle.matrix_play.specs.MatrixRuns.{IsMatrixRun}

-- what one term gave: its operations with their stamps, and an order of them by their places in the term
pub record MatrixPart (R : Type 0) : Type 0 where
  pub limit : ℕ
  pub ops : List (Op R)
  pub stamps : List (Option Stamp)
  pub order : List ℕ

module _ {R : Type 0} where
  -- a term's part came about so, where the term begins at the position `at` and opens with this record: its operations
  -- are the schedule's, `chosen i k` is what operation k of process i chose, in a run by accesses; the choices follow
  -- the law of choices, and the order is by stamp
  pub record IsMatrixPart (at : ℕ) (opening : R) (term : MatrixTerm R) (part : MatrixPart R) : Type 0 where
    pub limit : part.limit ≡ term.limit
    pub played : IsPlayed at (span_of term) part.ops
    pub chosen : ℕ → ℕ → Stamped R
    pub run : IsMatrixRun at (span_of term) opening part.ops part.stamps chosen
    pub choices : List (Choice R)
    pub chose : HasChoices opening term.limit part.ops part.stamps choices
    pub order : IsInOrder part.ops part.stamps part.order

  -- the parts of these terms: each later term opens with the latest record of the order of the one before
  abbrev pub AreMatrixParts : ℕ → R → List (MatrixTerm R) → List (MatrixPart R) → Type 0
  AreMatrixParts at opening [] [] = Unit {0}
  AreMatrixParts at opening [] (part ∷ parts) = ⊥
  AreMatrixParts at opening (term ∷ terms) [] = ⊥
  AreMatrixParts at opening (term ∷ terms) (part ∷ parts) =
      IsMatrixPart at opening term part
      × ((next : R) × (latest opening part.ops part.order ≡ Some next) ×
      AreMatrixParts (at + length term.steps) next terms parts)

  -- the parts of the history
  abbrev pub parts_of : List (MatrixPart R) → List (Part R)
  parts_of [] = []
  parts_of (part ∷ parts) = record { limit = part.limit; ops = part.ops; order = part.order } ∷ parts_of parts

  abbrev pub matrix_stamps : List (MatrixPart R) → List (Option Stamp)
  matrix_stamps [] = []
  matrix_stamps (part ∷ parts) = part.stamps ++ matrix_stamps parts

  -- how a report came about: it is what the terms gave, one after the other
  pub record MatrixCameAbout (schedule : MatrixSchedule R) (report : MatrixReport R) : Type 0 where
    pub parts : List (MatrixPart R)
    pub each : AreMatrixParts 0 schedule.opening schedule.terms parts
    pub terms : report.history.terms ≡ terms_from 0 (parts_of parts)
    pub ops : report.history.ops ≡ ops_of (parts_of parts)
    pub stamps : report.stamps ≡ matrix_stamps parts
    pub order : report.order ≡ order_from 0 (parts_of parts)

  -- all that is promised of a schedule's report: what it means, and how it came about
  pub record IsMatrixReport (schedule : MatrixSchedule R) (report : MatrixReport R) : Type 0 where
    pub opening : report.history.opening ≡ schedule.opening
    pub shape : HasShape (spans_of schedule.terms) report.history.terms report.history.ops
    pub atomic : IsAtomicOrder (λ x y. x ≡ y) schedule.opening report.history.ops report.order
    pub refusals : RefusesLawfully report.history.terms report.history.ops report.order
    pub run : MatrixCameAbout schedule report
