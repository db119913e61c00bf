-- What a process of a family has done, and what it may have done at any moment, also within an
-- access (this project's own).
use Rattle.std.specs.Prelude.{◌≡◌, ◌≢◌, ℕ, ◌+◌, ◌-◌, ◌<◌, ◌≤◌, List, [], ◌∷◌, ◌++◌, length}
use Rattle.std.specs.Prelude.{slice_get, Option, None, Some}
use Rattle.history_core.specs.Others.{other}
use Rattle.history_core.specs.Registers.{intervals, IsRegular}
use Rattle.history_core.specs.Schedules.{positions}
use Rattle.cell_contract.specs.Accesses.{KeepsEach, KeepsOthers, ReadAccesses, WriteAccesses}
use Rattle.cell_contract.specs.Ends.{IsSchedule, WasSaid}
use Rattle.cell_contract.specs.Rows.{OneByOne}
use Rattle.cell_contract.specs.declared.said.Said.{Said}
use Rattle.cell_contract.specs.declared.said.Found.{Found}

-- the records that a process wrote to another one or read from it, and when each of these accesses began and ended
pub record Accesses (T : Type 0) : Type 0 where
  pub items : List T
  pub begins : List ℕ
  pub ends : List ℕ

-- *What a process has done*: the times of its steps, its accesses to each process, the tags that it said, and those
-- that it found others to have said
pub record Doings (T : Type 0) : Type 0 where
  pub times : List ℕ
  pub writes : ℕ → Accesses T
  pub reads : ℕ → Accesses T
  pub said : List Said
  pub found : List Found

abbrev pub if_there : Option ℕ → List ℕ
if_there None = []
if_there (Some t) = t ∷ []

module _ {T : Type 0} where
  abbrev pub no_accesses : Accesses T
  no_accesses = record { items = []; begins = []; ends = [] }

  abbrev pub doings : List ℕ → (ℕ → WriteAccesses T) → (ℕ → ReadAccesses T) → List Said → List Found → Doings T
  doings times writes reads said found = record {
    times = times;
    writes = λ j. record { items = (writes j).items; begins = (writes j).times.begins; ends = (writes j).times.ends };
    reads = λ j. record { items = (reads j).answers; begins = (reads j).times.begins; ends = (reads j).times.ends };
    said = said;
    found = found;
  }

  pub record HasNoSteps (done : Doings T) : Type 0 where
    pub times : done.times ≡ []
    pub writes : (j : ℕ) → done.writes j ≡ no_accesses
    pub reads : (j : ℕ) → done.reads j ≡ no_accesses
    pub tags : (done.said ≡ []) × (done.found ≡ [])

  -- *A write to one process, as far as it has come*: so many of its steps. It has its record from the first of them
  -- on, and it ends with the last
  pub record WritesSoFar (width made : ℕ) (item : T) (to : ℕ) (old new : Doings T) : Type 0 where
    pub steps : List ℕ
    pub long : length steps ≡ made
    pub times : new.times ≡ old.times ++ steps
    pub items : (new.writes to).items ≡ (old.writes to).items ++ item ∷ []
    pub begins : (new.writes to).begins ≡ (old.writes to).begins ++ if_there (slice_get steps 0)
    pub ends : (new.writes to).ends ≡ (old.writes to).ends ++ if_there (slice_get steps (width - 1))
    pub others : KeepsOthers to old.writes new.writes × KeepsEach old.reads new.reads
    pub tags : (new.said ≡ old.said) × (new.found ≡ old.found)

  -- *A read of one process, as far as it has come*: so many of its steps, and its answer, if it has one
  pub record ReadsSoFar (width made from : ℕ) (old new : Doings T) : Type 0 where
    pub steps : List ℕ
    pub long : length steps ≡ made
    pub times : new.times ≡ old.times ++ steps
    pub answers : List T
    pub items : (new.reads from).items ≡ (old.reads from).items ++ answers
    pub begins : (new.reads from).begins ≡ (old.reads from).begins ++ if_there (slice_get steps 0)
    pub ends : (new.reads from).ends ≡ (old.reads from).ends ++ if_there (slice_get steps (width - 1))
    pub others : KeepsOthers from old.reads new.reads × KeepsEach old.writes new.writes
    pub tags : (new.said ≡ old.said) × (new.found ≡ old.found)

  -- *The plan allows an access*: it is kept after each step of it, whatever times and answers it gets
  abbrev pub MayWrite : (Doings T → Type 0) → ℕ → T → ℕ → Doings T → Type 0
  MayWrite plan width item to old =
      (made : ℕ) (new : Doings T) → 0 < made → made ≤ width → WritesSoFar width made item to old new → plan new

  abbrev pub MayRead : (Doings T → Type 0) → ℕ → ℕ → Doings T → Type 0
  MayRead plan width from old =
      (made : ℕ) (new : Doings T) → 0 < made → made ≤ width → ReadsSoFar width made from old new → plan new

  -- the same of an access to each other process, rising
  abbrev pub MayWriteEach : (Doings T → Type 0) → ℕ → ℕ → ℕ → T → Doings T → Type 0
  MayWriteEach plan width n i item old = (count : ℕ) (now : Doings T) → count + 1 < n →
      OneByOne (WritesSoFar width width item) i old count now → MayWrite plan width item (other i count) now

  abbrev pub MayReadEach : (Doings T → Type 0) → ℕ → ℕ → ℕ → Doings T → Type 0
  MayReadEach plan width n i old = (count : ℕ) (now : Doings T) → count + 1 < n →
      OneByOne (ReadsSoFar width width) i old count now → MayRead plan width (other i count) now

  -- *The plan allows a word*: it is kept once the process has said this tag, at this time, which is the last of which
  -- it knows; and once it has found another one to have said a tag, in one step, whatever time that gets
  abbrev pub MaySay : (Doings T → Type 0) → ℕ → ℕ → Doings T → Type 0
  MaySay plan tag time old = plan (record old { said = old.said ++ record { tag = tag; time = time } ∷ [] })

  abbrev pub MayFind : (Doings T → Type 0) → ℕ → ℕ → Doings T → Type 0
  MayFind plan who tag old = (time : ℕ) → plan (record old {
    times = old.times ++ time ∷ [];
    found = old.found ++ record { who = who; tag = tag; time = time } ∷ [];
  })

  -- *What all processes have done so far*, finished or cut off: their steps are one schedule, what each has done is of
  -- the plan, and each register between two of them is regular by its intervals. What one has found another one to have
  -- said, that one had said before. One of them has taken these steps, made these accesses and said and found these
  -- tags, and its answers have the numbers that are known
  pub record AreSoFar (plan : ℕ → Doings T → Type 0) (opening : T) (n who : ℕ) (times : List ℕ)
      (writes : ℕ → WriteAccesses T) (reads : ℕ → ReadAccesses T) (said : List Said) (found : List Found) : Type 0 where
    pub steps : List ℕ
    pub done : ℕ → Doings T
    pub schedule : IsSchedule n steps
    pub made : (i : ℕ) → i < n → (done i).times ≡ positions 1 i steps
    pub planned : (i : ℕ) → i < n → plan i (done i)
    pub finds : (i x : ℕ) (f : Found) → i < n → slice_get (done i).found x ≡ Some f →
        (f.who < n) × WasSaid (done f.who).said f
    pub known : done who ≡ doings times writes reads said found
    pub numbers : ℕ → ℕ → List ℕ
    pub numbered : (i : ℕ) → numbers i who ≡ (reads i).numbers
    pub registers : (i j : ℕ) → i < n → j < n → i ≢ j →
        IsRegular opening ((done i).writes j).items (intervals ((done i).writes j).begins ((done i).writes j).ends)
        ((done j).reads i).items (numbers i j) (intervals ((done j).reads i).begins ((done j).reads i).ends)
