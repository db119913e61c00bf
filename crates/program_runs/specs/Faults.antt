-- The faults that the refusals of the crates below become (this project's own).
use Rattle.history_core.specs.declared.wish.PlayError.{PlayError}
use Rattle.history_core.specs.declared.wish.PlayError.TheVariants as play
use Rattle.read_document.specs.declared.refusal.DocError.{DocError}
use Rattle.read_document.specs.declared.refusal.DocError.TheVariants as doc
use Rattle.program_runs.specs.declared.fault.Fault.{Fault}
use Rattle.program_runs.specs.declared.fault.Fault.TheVariants.{Document, Schedule, NoMemory}

abbrev pub refusal_fault : DocError → Fault
refusal_fault doc.NoMemory = NoMemory
refusal_fault other = Document other

abbrev pub play_fault : PlayError → Fault
play_fault play.NoMemory = NoMemory
play_fault (play.TooManySteps position) = Schedule position
