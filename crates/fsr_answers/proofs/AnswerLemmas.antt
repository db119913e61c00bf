-- The answer to a race has status 0 or 1.
use Rattle.std.proofs.Common.{rules, ◌≡◌, ◌≤◌, ℕ, List, Option, Some, None, Result, Ok, Err, inl, ap, arith}
use Rattle.program_streams.specs.Exits.{status_of}
use Rattle.program_runs.specs.Answers.{AnswersReading, GivesReply, HasAnswerStatus}
use Rattle.program_runs.specs.declared.fault.Answer.{Answer}
use Rattle.program_runs.specs.declared.fault.Fault.{Fault}
use Rattle.history_core.specs.declared.band.Band.{Band}
use Rattle.read_document.specs.declared.refusal.DocError.{DocError}
use Rattle.cell_contract.specs.declared.family.Family.{Ghosts as FamilyWords}
use Rattle.board_live.specs.declared.record.Posted.{Posted}
use Rattle.print_report.specs.declared.report.Report.{Report}
use Rattle.print_report.specs.declared.report.Report.TheVariants as report
use Rattle.read_schedule.specs.Document.{race_of}
use Rattle.read_schedule.specs.declared.document.RaceDocument.{RaceDocument}
use Rattle.fsr_answers.specs.RaceAnswers.{AnswersRace, IsRaceAnswer, exit_of, origin_exit}

origin_is_low : (broken : Option (ℕ × ℕ)) → status_of (origin_exit broken) ≤ 1
origin_is_low None = omega arith
origin_is_low (Some broken) = omega arith

race_is_low : (r : Report) → status_of (exit_of r) ≤ 1
race_is_low (report.Cell r) = omega arith
race_is_low (report.Matrix r titled) = omega arith
race_is_low (report.Board r titled) = omega arith
race_is_low (report.Race tasks broken) = origin_is_low broken

module _ {F S T : Type 0} (family : FamilyWords F (Posted Band) S T) where
  answer_is_low : (d : Result RaceDocument DocError) (a : Answer) → AnswersReading (AnswersRace family) d (Ok a) → a.status ≤ 1
  answer_is_low (Ok document) a answered =
      let same : a.status ≡ status_of (exit_of answered.0) = ap (λ b. b.status) answered.2 in
      rw same (race_is_low answered.0)
  answer_is_low (Err refusal) a answered = absurd (cc)

  pub low_race : (bytes : List ℕ) (r : Result Answer Fault) → GivesReply (IsRaceAnswer family bytes) r → HasAnswerStatus r
  low_race bytes (Ok a) answered = inl (answer_is_low (race_of bytes) a answered)
  low_race bytes (Err e) refused = search rules
