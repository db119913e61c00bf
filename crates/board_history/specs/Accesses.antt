-- A call of a process, access by access: so many reads, one of each other process, rising, and then as many writes, or
-- none, where it may have found that what it chose was told (this project's own).
use Rattle.std.specs.Prelude.{◌≡◌, ℕ, ◌+◌, ◌-◌, ◌*◌, ◌<◌, List, [], ◌∷◌, ◌++◌, length, slice_get, Some, true, false}
use Rattle.matrix_core.specs.declared.stamp.Stamped.{Stamped}
use Rattle.matrix_core.specs.Choices.{ChoosesByKind}
use Rattle.matrix_core.specs.Stamps.{greatest}
use Rattle.matrix_core.specs.Lines.{other}
use Rattle.board_history.specs.BoardRuns.{Answered, Called, Did, own_before, steps_of_call, Written}

-- access number `access` of these steps: it begins with its first step, and ends with its last
pub record IsInterval (width : ℕ) (steps : List ℕ) (access : ℕ) (begins ends begins' ends' : List ℕ) : Type 0 where
  pub begin : ℕ
  pub end : ℕ
  pub first : slice_get steps (access * width) ≡ Some begin
  pub last : slice_get steps (access * width + (width - 1)) ≡ Some end
  pub begun : begins' ≡ begins ++ begin ∷ []
  pub ended : ends' ≡ ends ++ end ∷ []

module _ {V : Type 0} where
  -- one answer more, and one record more
  pub record ReadsOnce (width : ℕ) (steps : List ℕ) (access : ℕ) (old new : Answered V)
      (answer : Stamped V) : Type 0 where
    pub interval : IsInterval width steps access old.begins old.ends new.begins new.ends
    pub items : new.items ≡ old.items ++ answer ∷ []

  pub record WritesOnce (width : ℕ) (steps : List ℕ) (access : ℕ) (old new : Written V)
      (item : Stamped V) : Type 0 where
    pub interval : IsInterval width steps access old.begins old.ends new.begins new.ends
    pub items : new.items ≡ old.items ++ item ∷ []

  -- *One call more*: its steps are the accesses, its answers with the own record what it saw, and what it chose is
  -- written to each other process; or nothing is written, where it is the record that the process had before, or in one
  -- step more the call finds that it was told
  pub record MakesCall (width n limit : ℕ) (first : Stamped V) (i : ℕ) (old new : Did V)
      (call : Called V) : Type 0 where
    pub calls : new.calls ≡ old.calls ++ call ∷ []
    pub steps : List ℕ
    pub long : length steps ≡ steps_of_call width n call.tells call.finds
    pub begun : slice_get steps 0 ≡ Some call.begin
    pub ended : slice_get steps (steps_of_call width n call.tells call.finds - 1) ≡ Some call.end
    pub times : new.times ≡ old.times ++ steps
    pub answers : List (Stamped V)
    pub each : length answers + 1 ≡ n
    pub reads : (e : ℕ) (answer : Stamped V) → slice_get answers e ≡ Some answer →
        ReadsOnce width steps e (old.reads (other i e)) (new.reads (other i e)) answer
    pub writes : (e : ℕ) → e + 1 < n → call.tells ≡ true →
        WritesOnce width steps (n - 1 + e) (old.writes (other i e)) (new.writes (other i e)) call.chosen
    pub unwritten : (e : ℕ) → e + 1 < n → call.tells ≡ false → new.writes (other i e) ≡ old.writes (other i e)
    pub silent : call.tells ≡ false → call.finds ≡ false →
        call.chosen ≡ own_before first old.calls (length old.calls)
    pub sees : call.seen ≡ greatest (own_before first old.calls (length old.calls)) answers
    pub chooses : (place : ℕ) →
        ChoosesByKind limit
        (record { place = place; who = i; kind = call.kind; stamp = call.chosen.stamp; item = call.chosen.item })
        call.kind call.seen.stamp call.seen.item

  -- a process that has made no call
  pub record HasDoneNothing (did : Did V) : Type 0 where
    pub times : did.times ≡ []
    pub calls : did.calls ≡ []
    pub reads : (j : ℕ) → did.reads j ≡ record { items = []; numbers = []; begins = []; ends = [] }
    pub writes : (j : ℕ) → did.writes j ≡ record { items = []; begins = []; ends = [] }
