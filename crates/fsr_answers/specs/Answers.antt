-- The answer of each command to a document (this project's own).
use Rattle.std.specs.Prelude.{ℕ, List, Result}
use Rattle.program_runs.specs.declared.fault.Answer.{Answer}
use Rattle.program_runs.specs.declared.fault.Fault.{Fault}
use Rattle.fsr_words.specs.declared.command.Want.{Want}
use Rattle.fsr_words.specs.declared.command.Want.TheVariants as want
use Rattle.history_core.specs.declared.band.Band.{Band}
use Rattle.cell_contract.specs.declared.family.Family.{Ghosts as FamilyWords}
use Rattle.board_live.specs.declared.record.Posted.{Posted}
use Rattle.fsr_check_answers.specs.Check.{IsCheckAnswer}
use Rattle.fsr_order_answers.specs.Order.{IsOrderAnswer}
use Rattle.fsr_play_answers.specs.Play.{IsPlayAnswer}
use Rattle.fsr_answers.specs.RaceAnswers.{IsRaceAnswer}

-- the answer of a command to the bytes of a document; a race is run over a board of this family
abbrev pub IsFsrAnswer : {F S T : Type 0} → FamilyWords F (Posted Band) S T → Want → List ℕ →
    Result Answer Fault → Type 0
IsFsrAnswer family want.Check bytes reply = IsCheckAnswer bytes reply
IsFsrAnswer family (want.Order show) bytes reply = IsOrderAnswer show bytes reply
IsFsrAnswer family want.Play bytes reply = IsPlayAnswer bytes reply
IsFsrAnswer family want.Race bytes reply = IsRaceAnswer family bytes reply
