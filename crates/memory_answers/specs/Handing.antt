-- What a call hands out of a reply, into a buffer in memory (this project's own).
use Rattle.std.specs.Prelude.{◌≡◌, ◌≢◌, ◌++◌, ◌⊎◌, ℕ, List, length, min, take, drop, Result, Ok, Err}
use Rattle.program_runs.specs.Run.{fault_status}
use Rattle.program_runs.specs.declared.fault.Answer.{Answer}
use Rattle.program_runs.specs.declared.fault.Fault.{Fault}

-- a text over the front of a buffer, as far as both reach
abbrev pub put_over : List ℕ → List ℕ → List ℕ
put_over text buffer = let reach : ℕ = min (length text) (length buffer) in take reach text ++ drop reach buffer

-- The text of an answer was handed out, with its length and its status; or the line of a fault, with the fault's
-- status or that of want of memory.
abbrev pub IsHandedOut : Result Answer Fault → List ℕ → List ℕ → ℕ → ℕ → Type 0
IsHandedOut (Ok answer) old new size status =
    (new ≡ put_over answer.text old) × (size ≡ length answer.text) × (status ≡ answer.status)
IsHandedOut (Err fault) old new size status =
    ((line : List ℕ) × (new ≡ put_over line old) × (size ≡ length line))
    × ((status ≡ fault_status fault) ⊎ (status ≡ 4))

-- this text and this status are those of a reply: an answer has both, a fault only its status
abbrev pub IsOfReply : Result Answer Fault → List ℕ → ℕ → Type 0
IsOfReply (Ok answer) text status = (text ≡ answer.text) × (status ≡ answer.status)
IsOfReply (Err fault) text status = status ≡ fault_status fault

-- A call over a buffer with the bytes `old` answered: a text lies over its front, and `size` is the text's length.
-- Unless memory ran out, which has status 4, text and status are those of such a reply.
pub record AnswersInMemory (IsReply : Result Answer Fault → Type 0) (old new : List ℕ) (size status : ℕ) : Type 0 where
  pub text : List ℕ
  pub put : new ≡ put_over text old
  pub counted : size ≡ length text
  pub told : status ≢ 4 → (reply : Result Answer Fault) × IsReply reply × IsOfReply reply text status
