-- A run of a board so far: what each process did up to a moment, where its last call may be cut off after any of its
-- steps, also for ever. A call that has begun and not ended is a pending operation (M. Herlihy and J. Wing,
-- Linearizability: A Correctness Condition for Concurrent Objects, ACM Transactions on Programming Languages and
-- Systems 12, 1990). This project's own is from when on it counts: a call has chosen with the last step of its column,
-- and the calls of a process here are those that have chosen. Its steps behind them are those of a call that is still
-- in its column, of which nobody can have seen anything.
use Rattle.std.specs.Prelude.{◌≡◌, ◌≢◌, ℕ, ◌+◌, ◌-◌, ◌*◌, ◌<◌, ◌≤◌, List, length, slice_get, Option, Some, true, false}
use Rattle.history_core.specs.Schedules.{positions}
use Rattle.matrix_core.specs.declared.stamp.Stamped.{Stamped}
use Rattle.matrix_core.specs.Lines.{other}
use Rattle.matrix_core.specs.Choices.{ChoosesByKind}
use Rattle.board_history.specs.BoardRuns.{Called, Did, FindWhatWasTold, IsRegister, own_before, records, Sees}
use Rattle.board_history.specs.BoardRuns.{steps_before, told}

-- the elements of the first list are the first of the second
abbrev pub AreFirstOf : {A : Type 0} → List A → List A → Type 0
AreFirstOf {A} xs ys = (x : ℕ) (a : A) → slice_get xs x ≡ Some a → slice_get ys x ≡ Some a

module _ {V : Type 0} where
  -- the time of the first step behind all calls that have chosen, if there is one: that of a call that hasn't
  abbrev pub unchosen_begin : ℕ → ℕ → Did V → Option ℕ
  unchosen_begin width n did = slice_get did.times (steps_before width n did.calls (length did.calls))

  -- accesses number `access` of each call that has chosen began and ended at these times
  pub record AreReadsSoFar (width n : ℕ) (did : Did V) (access : ℕ) (begins ends : List ℕ) : Type 0 where
    pub begun : (k : ℕ) → k < length did.calls →
        slice_get begins k ≡ slice_get did.times (steps_before width n did.calls k + access * width)
    pub ended : (k : ℕ) → k < length did.calls →
        slice_get ends k ≡ slice_get did.times (steps_before width n did.calls k + (access * width + (width - 1)))

  -- the same of each call that tells what it chose, as far as it has come
  pub record AreWritesSoFar (width n : ℕ) (did : Did V) (access : ℕ) (begins ends : List ℕ) : Type 0 where
    pub begun : (k : ℕ) (c : Called V) → slice_get did.calls k ≡ Some c → c.tells ≡ true →
        slice_get begins (told did.calls k) ≡ slice_get did.times (steps_before width n did.calls k + access * width)
    pub ended : (k : ℕ) (c : Called V) → slice_get did.calls k ≡ Some c → c.tells ≡ true →
        slice_get ends (told did.calls k)
        ≡ slice_get did.times (steps_before width n did.calls k + (access * width + (width - 1)))

  -- *The calls of process i so far*: each has made its column, and each but the last all of its steps. There are no
  -- more steps behind them than those of a column
  pub record IsProcessSoFar (width n limit : ℕ) (first : Stamped V) (i : ℕ) (did : Did V) : Type 0 where
    pub long : length did.times ≤ steps_before width n did.calls (length did.calls) + (n - 1) * width
    pub begun : (k : ℕ) (c : Called V) → slice_get did.calls k ≡ Some c →
        slice_get did.times (steps_before width n did.calls k) ≡ Some c.begin
    pub chose : (k : ℕ) (c : Called V) → slice_get did.calls k ≡ Some c →
        (t : ℕ) × (slice_get did.times (steps_before width n did.calls k + ((n - 1) * width - 1)) ≡ Some t)
    pub reads : (e : ℕ) → e + 1 < n →
        AreReadsSoFar width n did e (did.reads (other i e)).begins (did.reads (other i e)).ends
    pub writes : (e : ℕ) → e + 1 < n →
        AreWritesSoFar width n did (n - 1 + e) (did.writes (other i e)).begins (did.writes (other i e)).ends
    pub written : (e : ℕ) → e + 1 < n → AreFirstOf (did.writes (other i e)).items (records did.calls)
    pub silent : (k : ℕ) (c : Called V) → slice_get did.calls k ≡ Some c → c.tells ≡ false → c.finds ≡ false →
        c.chosen ≡ own_before first did.calls k
    pub sees : (k : ℕ) (c : Called V) → slice_get did.calls k ≡ Some c → Sees n first i did k c.seen
    pub chooses : (k place : ℕ) (c : Called V) → slice_get did.calls k ≡ Some c →
        ChoosesByKind limit
        (record { place = place; who = i; kind = c.kind; stamp = c.chosen.stamp; item = c.chosen.item })
        c.kind c.seen.stamp c.seen.item

  -- *A run of a board so far*: the steps of its processes make a schedule, each process made its calls as far as it has
  -- come, which found what was told, and each register between two processes is regular
  pub record IsBoardRunSoFar (width n limit : ℕ) (first : Stamped V) (steps : List ℕ) (did : ℕ → Did V) : Type 0 where
    pub size : (2 ≤ n) × (n ≤ 16) × (0 < width)
    pub within : (step who : ℕ) → slice_get steps step ≡ Some who → who < n
    pub scheduled : (i : ℕ) → i < n → (did i).times ≡ positions 1 i steps
    pub each : (i : ℕ) → i < n → IsProcessSoFar width n limit first i (did i)
    pub finds : FindWhatWasTold width n did
    pub registers : (i j : ℕ) → i < n → j < n → i ≢ j → IsRegister first ((did i).writes j) ((did j).reads i)
