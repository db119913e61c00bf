-- What comes of the input of the program that draws (this project's own).
use Rattle.std.specs.Prelude.{◌≡◌, ℕ, Bool, true, false, List}
use Rattle.program_runs.specs.Run.{IsToldBy, nothing_asked}
use Rattle.program_runs.specs.declared.fault.Answer.{Answer}
use Rattle.picture_answers.specs.Answers.{IsPictureAnswer}

-- what is made of the input; where words besides the program's name were given, nothing is, with status 2
abbrev pub IsPictureOutcome : Bool → List ℕ → Answer → Type 0
IsPictureOutcome false bytes told = told ≡ nothing_asked
IsPictureOutcome true bytes told = IsToldBy IsPictureAnswer bytes told
