-- Logs that tell of a board's run (this project's own).
use Rattle.std.specs.Prelude.{◌≡◌, ◌⊎◌, Bool, true, ℕ, List, [], length, slice_get, Some}
use Rattle.matrix_core.specs.Lines.{first_record}
use Rattle.board_history.specs.BoardRuns.{Called, Did, IsBoardRun}
use Rattle.board_history.specs.BoardRuns.{end_of}
use Rattle.board_history.specs.RunsSoFar.{IsBoardRunSoFar}
use Rattle.board_tasks.specs.declared.lane.Entry.{Entry}
use Rattle.board_tasks.specs.Lost.{is_lost}
use Rattle.board_tasks.specs.Worked.{EachTells}

-- *Of a run*: a board that opened with this record was run by a process for each log, and each entry of a
-- log tells of its process's call
pub record AreOfRun {V : Type 0} (opening : V) (logs : List (List (Entry V))) : Type 0 where
  pub width : ℕ
  pub limit : ℕ
  pub steps : List ℕ
  pub did : ℕ → Did V
  pub run : IsBoardRun width (length logs) limit (first_record opening) steps did
  pub told : (i : ℕ) (log : List (Entry V)) → slice_get logs i ≡ Some log → EachTells log (did i).calls

-- each call of the process has ended
abbrev pub AllHaveEnded : {V : Type 0} → ℕ → ℕ → Did V → Type 0
AllHaveEnded {V} width n did =
    (k : ℕ) (c : Called V) → slice_get did.calls k ≡ Some c → (end : ℕ) × (end_of width n did k c ≡ Some end)

-- *Of a run, beside what is lost*: the same of a board's run so far. Each log tells of all calls of its process, which
-- have ended, or it is lost and empty: its process may be cut off in its last call, also for ever
pub record AreOfRunBeside {V : Type 0} (opening : V) (lost : List Bool) (logs : List (List (Entry V))) : Type 0 where
  pub width : ℕ
  pub limit : ℕ
  pub steps : List ℕ
  pub did : ℕ → Did V
  pub run : IsBoardRunSoFar width (length logs) limit (first_record opening) steps did
  pub each : (i : ℕ) (log : List (Entry V)) → slice_get logs i ≡ Some log →
      (EachTells log (did i).calls × AllHaveEnded width (length logs) (did i))
      ⊎ ((is_lost lost i ≡ true) × (log ≡ []))
