-- An answer of `fsr` has status 0, 1 or 8.
use Rattle.std.proofs.Common.{ℕ, List, Result}
use Rattle.program_runs.specs.Answers.{GivesReply, HasAnswerStatus}
use Rattle.program_runs.specs.declared.fault.Answer.{Answer}
use Rattle.program_runs.specs.declared.fault.Fault.{Fault}
use Rattle.fsr_words.specs.declared.command.Want.{Want}
use Rattle.fsr_words.specs.declared.command.Want.TheVariants as want
use Rattle.history_core.specs.declared.band.Band.{Band}
use Rattle.cell_contract.specs.declared.family.Family.{Ghosts as FamilyWords}
use Rattle.board_live.specs.declared.record.Posted.{Posted}
use Rattle.fsr_check_answers.proofs.AnswerLemmas.{low_check}
use Rattle.fsr_order_answers.proofs.OrderLemmas.{status_order}
use Rattle.fsr_play_answers.proofs.AnswerLemmas.{low_play}
use Rattle.fsr_answers.proofs.AnswerLemmas.{low_race}
use Rattle.fsr_answers.specs.Answers.{IsFsrAnswer}

module _ {F S T : Type 0} (family : FamilyWords F (Posted Band) S T) where
  pub low_answer : (command : Want) (bytes : List ℕ) (r : Result Answer Fault) →
      GivesReply (IsFsrAnswer family command bytes) r → HasAnswerStatus r
  low_answer want.Check bytes r answered = low_check bytes r answered
  low_answer (want.Order show) bytes r answered = status_order show bytes r answered
  low_answer want.Play bytes r answered = low_play bytes r answered
  low_answer want.Race bytes r answered = low_race family bytes r answered
