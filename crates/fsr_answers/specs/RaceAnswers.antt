-- The answer to a document of a race: the text of what the race tells, or the fault (this project's own).
use Rattle.std.specs.Prelude.{◌≡◌, ℕ, List, Option, Some, None, Result, Ok, Err}
use Rattle.program_streams.specs.Exits.{status_of}
use Rattle.program_streams.specs.declared.exit.Exit.{Exit}
use Rattle.program_streams.specs.declared.exit.Exit.TheVariants.{Sound, Unsound}
use Rattle.program_runs.specs.Answers.{AnswersReading}
use Rattle.program_runs.specs.declared.fault.Answer.{Answer}
use Rattle.program_runs.specs.declared.fault.Fault.{Fault}
use Rattle.history_core.specs.declared.band.Band.{Band}
use Rattle.cell_contract.specs.declared.family.Family.{Ghosts as FamilyWords}
use Rattle.board_live.specs.declared.record.Posted.{Posted}
use Rattle.print_report.specs.Text.{text_of}
use Rattle.print_report.specs.declared.report.Report.{Report}
use Rattle.print_report.specs.declared.report.Report.TheVariants as report
use Rattle.read_schedule.specs.Document.{race_of}
use Rattle.read_schedule.specs.declared.document.RaceDocument.{RaceDocument}
use Rattle.fsr_answers.specs.Races.{IsRace}

-- how a race ends: as sound where each record has its origin
abbrev pub origin_exit : Option (ℕ × ℕ) → Exit
origin_exit None = Sound
origin_exit (Some broken) = Unsound

abbrev pub exit_of : Report → Exit
exit_of (report.Race tasks broken) = origin_exit broken
exit_of other = Sound

-- the text of what a race tells, with its status
abbrev pub printed : Report → Answer
printed r = record { text = text_of r; status = status_of (exit_of r) }

-- over a board of this family
module _ {F S T : Type 0} (family : FamilyWords F (Posted Band) S T) where
  -- the answer to the scripts of a race: the text of what a race tells that nothing stops
  abbrev pub AnswersRace : RaceDocument → Result Answer Fault → Type 0
  AnswersRace document (Ok answer) =
      (r : Report)
      × IsRace family (λ task call. Unit {0}) (λ task call. ⊥) document.opening document.limit document.scripts r
      × (answer ≡ printed r)
  AnswersRace document (Err fault) = ⊥

  -- the answer of the command `race` to the bytes of a document
  abbrev pub IsRaceAnswer : List ℕ → Result Answer Fault → Type 0
  IsRaceAnswer bytes reply = AnswersReading AnswersRace (race_of bytes) reply
