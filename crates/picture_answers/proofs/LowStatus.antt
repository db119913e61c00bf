-- The answer with a picture has status 0 or 1.
use Rattle.std.proofs.Common.{rules, ◌≡◌, ◌≤◌, List, ℕ, Result, Ok, Err, inl, ap, arith}
use Rattle.program_streams.specs.Exits.{status_of}
use Rattle.program_runs.specs.Answers.{AnswersReading, GivesReply, HasAnswerStatus}
use Rattle.program_runs.specs.declared.fault.Answer.{Answer}
use Rattle.program_runs.specs.declared.fault.Fault.{Fault}
use Rattle.read_document.specs.declared.refusal.DocError.{DocError}
use Rattle.print_picture.specs.declared.scene.Finding.{Finding}
use Rattle.print_picture.specs.declared.scene.Finding.TheVariants.{Lawful, Broken, NoOrder}
use Rattle.print_picture.specs.declared.scene.Scene.{Scene}
use Rattle.read_schedule.specs.declared.document.ScheduleDocument.TheVariants.{Cell, Matrix, Board}
use Rattle.picture_answers.specs.Answers.{Answers, IsPictureAnswer, document_of, drawn, exit_of}
use Rattle.picture_answers.specs.declared.drawings.Shown.{Shown}
use Rattle.picture_answers.specs.declared.drawings.Shown.TheVariants as shown

low_finding : (finding : Finding) → status_of (exit_of finding) ≤ 1
low_finding Lawful = omega arith
low_finding (Broken broken) = omega arith
low_finding (NoOrder reason) = omega arith

low_drawn : (scene : Scene) (a : Answer) → a ≡ drawn scene → a.status ≤ 1
low_drawn scene a is_drawn = let same : a.status ≡ status_of (exit_of scene.finding) = ap (λ b. b.status) is_drawn in
    rw same (low_finding scene.finding)

low_reading : (d : Result Shown DocError) (a : Answer) → AnswersReading Answers d (Ok a) → a.status ≤ 1
low_reading (Ok (shown.Check document)) a answered = low_drawn answered.0 a answered.2
low_reading (Ok (shown.Log log lines)) a answered = low_drawn answered.2 a answered.4
low_reading (Ok (shown.Schedule (Cell schedule))) a answered = low_drawn answered.2 a answered.4
low_reading (Ok (shown.Schedule (Matrix schedule titled))) a answered = low_drawn answered.3 a answered.5
low_reading (Ok (shown.Schedule (Board schedule titled))) a answered = low_drawn answered.3 a answered.5
low_reading (Err refusal) a answered = absurd (cc)

pub low_answer : (bytes : List ℕ) (r : Result Answer Fault) → GivesReply (IsPictureAnswer bytes) r → HasAnswerStatus r
low_answer bytes (Ok a) answered = inl (low_reading (document_of bytes) a answered)
low_answer bytes (Err e) refused = search rules
