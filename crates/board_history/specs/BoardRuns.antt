-- A run of a board whose processes make their steps in one time: what each process did, as lists. Each call reads the
-- register of each other process for it, rising, and chooses; and then it tells what it chose, to the register of each
-- other process, rising. It needn't where it chose the record that its process had before, or where it finds, in one
-- step more, that this record or a newer one was told by a call that has ended. Each register is regular by its
-- intervals (L. Lamport, On Interprocess Communication, Parts I and II, Distributed Computing 1, 1986); the rules of
-- the matrix are this project's own.
use Rattle.std.specs.Prelude.{◌≡◌, ◌≢◌, ℕ, ◌+◌, ◌-◌, ◌*◌, ◌<◌, ◌≤◌, List, [], ◌∷◌, length, slice_get, Some, zero, suc}
use Rattle.std.specs.Prelude.{Bool, true, false, if◌then◌else◌, Option}
use Rattle.history_core.specs.declared.history.Kind.{Kind}
use Rattle.history_core.specs.Schedules.{positions}
use Rattle.matrix_core.specs.declared.stamp.Stamped.{Stamped}
use Rattle.matrix_core.specs.Lines.{other}
use Rattle.matrix_core.specs.declared.stamp.Stamp.{Stamp}
use Rattle.matrix_core.specs.Choices.{ChoosesByKind, IsAtMost}
use Rattle.matrix_core.specs.Stamps.{greatest}
use Rattle.history_core.specs.Registers.{intervals, IsRegular}

-- the steps of a call: so many reads, and as many writes where it tells what it chose, of so many steps each; where it
-- doesn't, it may find in one step that this was told
abbrev pub steps_of_call : ℕ → ℕ → Bool → Bool → ℕ
steps_of_call width n tells finds =
    (n - 1) * width + (if tells then (n - 1) * width else (if finds then 1 else 0))

-- a call that has ended: the times of its first and its last step, the greatest record that it saw, the record that it
-- chose, whether it told it, and whether it found, where it didn't, that this record or a newer one was told
pub record Called (V : Type 0) : Type 0 where
  pub begin : ℕ
  pub end : ℕ
  pub kind : Kind
  pub seen : Stamped V
  pub chosen : Stamped V
  pub tells : Bool
  pub finds : Bool

-- what a process wrote to another one, and what it read from one: each answer with its number among the records
-- written, 0 that of the opening
pub record Written (V : Type 0) : Type 0 where
  pub items : List (Stamped V)
  pub begins : List ℕ
  pub ends : List ℕ

pub record Answered (V : Type 0) : Type 0 where
  pub items : List (Stamped V)
  pub numbers : List ℕ
  pub begins : List ℕ
  pub ends : List ℕ

-- what a process did: when it made its steps, its calls, and what it wrote to and read from each process
pub record Did (V : Type 0) : Type 0 where
  pub times : List ℕ
  pub calls : List (Called V)
  pub writes : ℕ → Written V
  pub reads : ℕ → Answered V

module _ {V : Type 0} where
  -- the record that a process had before call k: the one that its call before chose, or the opening
  abbrev pub own_before : Stamped V → List (Called V) → ℕ → Stamped V
  own_before first calls zero = first
  own_before first [] (suc k) = first
  own_before first (c ∷ calls) (suc k) = own_before c.chosen calls k

  -- how many of the first k calls told what they chose, and the records that were told
  abbrev pub told : List (Called V) → ℕ → ℕ
  told calls zero = 0
  told [] (suc k) = 0
  told (c ∷ calls) (suc k) = (if c.tells then 1 else 0) + told calls k

  abbrev pub records : List (Called V) → List (Stamped V)
  records [] = []
  records (c ∷ calls) = if c.tells then c.chosen ∷ records calls else records calls

  -- the steps of the first k calls
  abbrev pub steps_before : ℕ → ℕ → List (Called V) → ℕ → ℕ
  steps_before width n calls zero = 0
  steps_before width n [] (suc k) = 0
  steps_before width n (c ∷ calls) (suc k) = steps_of_call width n c.tells c.finds + steps_before width n calls k

  -- the time of the last step of call k among these calls, if it has made it: a call that is cut off has no end,
  -- whatever `Called` says
  abbrev pub end_among : ℕ → ℕ → List ℕ → List (Called V) → ℕ → Called V → Option ℕ
  end_among width n times calls k c =
      slice_get times (steps_before width n calls k + (steps_of_call width n c.tells c.finds - 1))

  abbrev pub end_of : ℕ → ℕ → Did V → ℕ → Called V → Option ℕ
  end_of width n did k c = end_among width n did.times did.calls k c

  -- accesses number `access` of each call began and ended at these times
  pub record AreReads (width n : ℕ) (did : Did V) (access : ℕ) (begins ends : List ℕ) : Type 0 where
    pub begun : (k : ℕ) → k < length did.calls →
        slice_get begins k ≡ slice_get did.times (steps_before width n did.calls k + access * width)
    pub ended : (k : ℕ) → k < length did.calls →
        slice_get ends k ≡ slice_get did.times (steps_before width n did.calls k + (access * width + (width - 1)))
    pub all : (length begins ≡ length did.calls) × (length ends ≡ length did.calls)

  -- accesses number `access` of each call that told what it chose began and ended at these times
  pub record AreWrites (width n : ℕ) (did : Did V) (access : ℕ) (begins ends : List ℕ) : Type 0 where
    pub begun : (k : ℕ) (c : Called V) → slice_get did.calls k ≡ Some c → c.tells ≡ true →
        slice_get begins (told did.calls k) ≡ slice_get did.times (steps_before width n did.calls k + access * width)
    pub ended : (k : ℕ) (c : Called V) → slice_get did.calls k ≡ Some c → c.tells ≡ true →
        slice_get ends (told did.calls k)
        ≡ slice_get did.times (steps_before width n did.calls k + (access * width + (width - 1)))
    pub all : (length begins ≡ told did.calls (length did.calls)) × (length ends ≡ told did.calls (length did.calls))

  -- what call k saw: the greatest of its process's own record and of one answer of each other process
  pub record Sees (n : ℕ) (first : Stamped V) (i : ℕ) (did : Did V) (k : ℕ) (seen : Stamped V) : Type 0 where
    pub answers : List (Stamped V)
    pub each : length answers + 1 ≡ n
    pub answered : (e : ℕ) (answer : Stamped V) → slice_get answers e ≡ Some answer →
        slice_get (did.reads (other i e)).items k ≡ Some answer
    pub greatest : seen ≡ greatest (own_before first did.calls k) answers

  -- the calls of process i, all of which have ended
  pub record IsProcess (width n limit : ℕ) (first : Stamped V) (i : ℕ) (did : Did V) : Type 0 where
    pub long : length did.times ≡ steps_before width n did.calls (length did.calls)
    pub begun : (k : ℕ) (c : Called V) → slice_get did.calls k ≡ Some c →
        slice_get did.times (steps_before width n did.calls k) ≡ Some c.begin
    pub ended : (k : ℕ) (c : Called V) → slice_get did.calls k ≡ Some c → end_of width n did k c ≡ Some c.end
    pub reads : (e : ℕ) → e + 1 < n → AreReads width n did e (did.reads (other i e)).begins (did.reads (other i e)).ends
    pub answered : (e : ℕ) → e + 1 < n → length (did.reads (other i e)).items ≡ length did.calls
    pub writes : (e : ℕ) → e + 1 < n →
        AreWrites width n did (n - 1 + e) (did.writes (other i e)).begins (did.writes (other i e)).ends
    pub written : (e : ℕ) → e + 1 < n → (did.writes (other i e)).items ≡ records did.calls
    pub silent : (k : ℕ) (c : Called V) → slice_get did.calls k ≡ Some c → c.tells ≡ false → c.finds ≡ false →
        c.chosen ≡ own_before first did.calls k
    pub sees : (k : ℕ) (c : Called V) → slice_get did.calls k ≡ Some c → Sees n first i did k c.seen
    pub chooses : (k place : ℕ) (c : Called V) → slice_get did.calls k ≡ Some c →
        ChoosesByKind limit
        (record { place = place; who = i; kind = c.kind; stamp = c.chosen.stamp; item = c.chosen.item })
        c.kind c.seen.stamp c.seen.item

  -- what one process wrote to another and this one read is a regular register
  abbrev pub IsRegister : Stamped V → Written V → Answered V → Type 0
  IsRegister first writes reads =
      IsRegular first writes.items (intervals writes.begins writes.ends) reads.items reads.numbers
      (intervals reads.begins reads.ends)

  -- *Told*: a call that told a record whose stamp isn't below this one has ended before this time
  pub record WasTold (width n : ℕ) (did : ℕ → Did V) (stamp : Stamp) (time : ℕ) : Type 0 where
    pub who : ℕ
    pub number : ℕ
    pub call : Called V
    pub inside : who < n
    pub there : slice_get (did who).calls number ≡ Some call
    pub tells : call.tells ≡ true
    pub not_below : IsAtMost stamp call.chosen.stamp
    pub end : ℕ
    pub ended : end_of width n (did who) number call ≡ Some end
    pub before : end < time

  -- each call of the processes that didn't tell what it chose, but found that it was told, and has ended, found the
  -- truth
  abbrev pub FindWhatWasTold : ℕ → ℕ → (ℕ → Did V) → Type 0
  FindWhatWasTold width n did = (i k end : ℕ) (c : Called V) → i < n → slice_get (did i).calls k ≡ Some c →
      c.tells ≡ false → c.finds ≡ true → end_of width n (did i) k c ≡ Some end →
      WasTold width n did c.chosen.stamp end

  -- *A run of a board*: the steps of its processes make a schedule, each process made its calls, which found what was
  -- told, and each register between two processes is regular
  pub record IsBoardRun (width n limit : ℕ) (first : Stamped V) (steps : List ℕ) (did : ℕ → Did V) : Type 0 where
    pub size : (2 ≤ n) × (n ≤ 16) × (0 < width)
    pub within : (step who : ℕ) → slice_get steps step ≡ Some who → who < n
    pub scheduled : (i : ℕ) → i < n → (did i).times ≡ positions 1 i steps
    pub each : (i : ℕ) → i < n → IsProcess width n limit first i (did i)
    pub finds : FindWhatWasTold width n did
    pub registers : (i j : ℕ) → i < n → j < n → i ≢ j → IsRegister first ((did i).writes j) ((did j).reads i)
