-- What a run of `fsr watch` does to its streams (this project's own).
use Rattle.std.specs.Prelude.{◌≡◌, ◌≢◌, ◌≤◌, ◌++◌, ◌⊎◌, ℕ, List, [], Option, Result, Ok, Err}
use Rattle.std.specs.Io.{StartsWith}
use Rattle.std.specs.Io.KnownBytes.{Appends, Consumes, IsAtEnd}
use Rattle.program_streams.specs.declared.stream.Failed.{Failed}
use Rattle.watch_lines.specs.Replies.{IsWatchReply, TellsIf}
use Rattle.watch_lines.specs.declared.told.Told.{Told}
use Rattle.watch_lines.specs.declared.told.WatchFault.{WatchFault}
use Rattle.fsr_watch_answers.specs.Text.{printed}

-- this is told of an input of which these bytes were taken and this is left, whatever that is
abbrev pub IsToldEarly : List ℕ → Option (List ℕ) → Result Told WatchFault → Type 0
IsToldEarly taken left reply = (behind : List ℕ) → (IsAtEnd left → behind ≡ []) → IsWatchReply (taken ++ behind) reply

-- what was told of an input; or a read failed
abbrev pub WatchesInput : Option (List ℕ) → Option (List ℕ) → Result (Result Told WatchFault) Failed → Type 0
WatchesInput old new (Ok reply) = (taken : List ℕ) × Consumes old new taken × TellsIf (IsToldEarly taken new) reply
WatchesInput old new (Err failed) = (taken : List ℕ) × Consumes old new taken

-- A run ended with this status. in_old and in_new are the bytes that were left of the input before and after, out_old
-- and out_new those that had gone out.
pub record WatchRuns (in_old in_new out_old out_new : Option (List ℕ)) (status : ℕ) : Type 0 where
  pub taken : List ℕ
  pub sent : List ℕ
  pub takes : Consumes in_old in_new taken
  pub sends : Appends out_old out_new sent
  -- what went out is a front of the text of what is told of the input, also after a failed write
  pub front : (sent ≡ []) ⊎ ((reply : Result Told WatchFault) × IsToldEarly taken in_new reply
      × StartsWith (printed reply).text sent)
  -- with a status from 2 nothing goes out, but for a front before a write failed
  pub silent : 2 ≤ status → status ≢ 5 → sent ≡ []
  -- but for want of memory and failed streams, the text goes out whole, with its status
  pub told : status ≢ 4 → status ≢ 5 → (reply : Result Told WatchFault) × IsToldEarly taken in_new reply
      × (record { text = sent; status = status } ≡ printed reply)
