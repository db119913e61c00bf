-- What was handed out of a reply is text and status of that reply.
use Rattle.std.proofs.Common.{rules, ◌≡◌, ◌≢◌, ◌⊎◌, ⊎_elim, ℕ, List, Result, Ok, Err, refl}
use Rattle.program_runs.specs.Answers.{GivesReply}
use Rattle.program_runs.specs.Run.{fault_status}
use Rattle.program_runs.specs.declared.fault.Answer.{Answer}
use Rattle.program_runs.specs.declared.fault.Fault.{Fault}
use Rattle.program_runs.specs.declared.fault.Fault.TheVariants as fault
use Rattle.memory_answers.specs.Handing.{AnswersInMemory, IsHandedOut}

module _ (IsReply : Result Answer Fault → Type 0) where
  -- a fault is a reply unless it is want of memory
  is_reply : (f : Fault) (status : ℕ) → GivesReply IsReply (Err f) → status ≡ fault_status f → status ≢ 4
      → IsReply (Err f)
  is_reply fault.NoMemory status given same other = absurd (other same)
  is_reply (fault.Document refusal) status given same other = given (search rules)
  is_reply (fault.History why) status given same other = given (search rules)
  is_reply (fault.Lines why) status given same other = given (search rules)
  is_reply (fault.Schedule position) status given same other = given (search rules)
  is_reply fault.NoThread status given same other = given (search rules)
  is_reply (fault.Undecided line) status given same other = given (search rules)

  pub answers : (reply : Result Answer Fault) (old new : List ℕ) (size status : ℕ) → GivesReply IsReply reply
      → IsHandedOut reply old new size status → AnswersInMemory IsReply old new size status
  answers (Ok a) old new size status given handed = record {
    text = a.text;
    put = handed.0;
    counted = handed.1;
    told = λ other. (Ok a, given, (refl, handed.2));
  }
  answers (Err f) old new size status given handed = record {
    text = handed.0.0;
    put = handed.0.1;
    counted = handed.0.2;
    told = λ other. (⊎_elim (λ (same : status ≡ fault_status f). (Err f, is_reply f status given same other, same))
        (λ (four : status ≡ 4). absurd (other four)) handed.1);
  }
