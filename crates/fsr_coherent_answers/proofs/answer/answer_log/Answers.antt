-- What was found of the log is printed.
use Rattle.std.proofs.Common.{◌≡◌, List, ℕ, subst}
use Rattle.std.proofs.lemmas.Result.{IfOk-weaker}
use Rattle.history_core.specs.declared.history.Op.{Op}
use Rattle.history_coherence.specs.Answers.{IsCoherence}
use Rattle.text_lines.specs.Words.{text_in}
use Rattle.program_runs.specs.declared.fault.Answer.{Answer}
use Rattle.fsr_coherent_answers.specs.CoherenceAnswers.{IsFoundCoherence}
use Rattle.fsr_coherent_answers.specs.CoherenceText.{printed}
use Rattle.fsr_coherent_answers.proofs.answer.answer_log.Goals as goal

pub returns-clause-found : goal.returns-clause-found
returns-clause-found c =
    IfOk-weaker c.print.result
    (λ (answer : Answer). answer ≡ printed (text_in c.args.packed.now) c.args.log.now c.in_ok-found.found)
    (IsFoundCoherence (text_in c.args.packed.now) c.args.log.now)
    (λ answer is. (
      c.in_ok-found.found,
      subst (λ (ops : List (Op ℕ)). IsCoherence ops c.in_ok-found.found) c.as_slice.ensures.value c.in_ok-found.ensures,
      is,
    ))
    c.print.ensures
