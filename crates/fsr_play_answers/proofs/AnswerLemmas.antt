-- The answer to a schedule has status 0.
use Rattle.std.proofs.Common.{rules, ◌≡◌, ◌≤◌, ℕ, List, Result, Ok, Err, inl, ap, arith}
use Rattle.program_runs.specs.Answers.{AnswersReading, GivesReply, HasAnswerStatus}
use Rattle.program_runs.specs.declared.fault.Answer.{Answer}
use Rattle.program_runs.specs.declared.fault.Fault.{Fault}
use Rattle.read_document.specs.declared.refusal.DocError.{DocError}
use Rattle.read_schedule.specs.Document.{schedule_of}
use Rattle.read_schedule.specs.declared.document.ScheduleDocument.{ScheduleDocument}
use Rattle.read_schedule.specs.declared.document.ScheduleDocument.TheVariants.{Cell, Matrix, Board}
use Rattle.fsr_play_answers.specs.Play.{AnswersSchedule, IsPlayAnswer}

schedule_is_low : (d : Result ScheduleDocument DocError) (a : Answer) → AnswersReading AnswersSchedule d (Ok a) → a.status ≤ 1
schedule_is_low (Ok (Cell schedule)) a answered = let same : a.status ≡ 0 = ap (λ b. b.status) answered.2 in omega (arith, same)
schedule_is_low (Ok (Matrix schedule titled)) a answered = let same : a.status ≡ 0 = ap (λ b. b.status) answered.3 in omega (arith, same)
schedule_is_low (Ok (Board schedule titled)) a answered = let same : a.status ≡ 0 = ap (λ b. b.status) answered.3 in omega (arith, same)
schedule_is_low (Err refusal) a answered = absurd (cc)

pub low_play : (bytes : List ℕ) (r : Result Answer Fault) → GivesReply (IsPlayAnswer bytes) r → HasAnswerStatus r
low_play bytes (Ok a) answered = inl (schedule_is_low (schedule_of bytes) a answered)
low_play bytes (Err e) refused = search rules
