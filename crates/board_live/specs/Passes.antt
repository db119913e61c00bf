-- The passes of a board's processes, and the calls that were made with them (this project's own).
use Rattle.std.specs.Prelude.{◌≡◌, ◌≢◌, ◌⊎◌, Bool, IsTrue, ℕ, ◌+◌, ◌-◌, ◌*◌, ◌<◌, ◌≤◌, List, [], ◌∷◌}
use Rattle.std.specs.Prelude.{◌++◌, length, map, slice_get, Some}
use Rattle.std.specs.Prelude.{All, vec_capacity, Result, Ok, Err, true, false}
use Rattle.cell_contract.specs.Intervals.{AreFirst, AreHeeded}
use Rattle.cell_contract.specs.Running.{IsAnswer, last_or}
use Rattle.cell_contract.specs.declared.family.Family.{Ghosts as FamilyWords}
use Rattle.cell_contract.specs.Accesses.{IsReadAccess, IsWriteAccess, KeepsEach, ReadAccesses, WriteAccesses}
use Rattle.history_core.specs.declared.history.Kind.{Kind}
use Rattle.history_core.specs.declared.history.Kind.TheVariants.{Write, Refused as RefusedKind}
use Rattle.matrix_core.specs.declared.stamp.Stamp.{Stamp}
use Rattle.matrix_core.specs.Choices.{IsAtMost}
use Rattle.matrix_core.specs.Stamps.{first_stamp}
use Rattle.matrix_core.specs.Lines.{other}
use Rattle.board_history.specs.BoardRuns.{Answered, Called, Did, IsProcess, own_before, steps_of_call, Written}
use Rattle.board_live.specs.declared.board.Board.{Board}
use Rattle.board_live.specs.declared.board.Pass.{Pass}
use Rattle.board_live.specs.declared.board.Refused.{Refused}
use Rattle.board_live.specs.declared.record.Posted.{Posted}
use Rattle.board_live.specs.Plans.{KeepsItsWord}
use Rattle.board_live.specs.Records.{greatest_posted, Rises, stamped}

module _ {V : Type 0} where
  abbrev pub written_of : WriteAccesses (Posted V) → Written V
  written_of w = record { items = map stamped w.items; begins = w.times.begins; ends = w.times.ends }

  abbrev pub answered_of : ReadAccesses (Posted V) → Answered V
  answered_of r =
      record { items = map stamped r.answers; numbers = r.numbers; begins = r.times.begins; ends = r.times.ends }

  -- one answer more of another process: it is the record with its number of the writes that are known, atomic
  -- by its interval; and it obeys its law, and is no older than the opening, the answer before it and all
  -- that was told of that process
  pub record IsFurtherAnswer (obeys : V → Bool) (opening : Posted V) (old new : ReadAccesses (Posted V))
      (answer : Posted V) : Type 0 where
    pub read : IsReadAccess opening old new answer
    pub running : IsAnswer (λ p. IsTrue (obeys p.item)) Rises opening old.answers old.told answer

  -- no receipt more, and what is known of the other process's writes begins with those that
  -- each of its receipts carried
  pub record IsMindful (old new : ReadAccesses (Posted V)) : Type 0 where
    pub same : new.heard ≡ old.heard
    pub first : All (λ told. AreFirst told new.known.items new.known.times) new.heard

module _ {V F S T : Type 0} (family : FamilyWords F (Posted V) S T) where
  -- what a process did, by its seat
  abbrev pub did_of : S → List (Called V) → Did V
  did_of seat calls = record {
    times = family.times seat;
    calls = calls;
    writes = λ j. written_of (family.writes seat j);
    reads = λ j. answered_of (family.reads seat j);
  }

  -- these calls were made with the pass
  pub record HasMade (board : Board V F S T) (pass : Pass V F S T) (calls : List (Called V)) : Type 0 where
    pub made : IsProcess family.width board.processes board.limit (stamped board.first) pass.process
        (did_of pass.seat calls)
    pub own : stamped pass.own ≡ own_before (stamped board.first) calls (length calls)
    pub word : KeepsItsWord family.width board.processes pass.process (family.times pass.seat) calls
        (family.said pass.seat) (family.found pass.seat)

  -- the pass is of this board, and some calls were made with it. No register of its process holds a record above its
  -- own one, and if that was told each of them holds it
  pub record IsPass (obeys : V → Bool) (board : Board V F S T) (pass : Pass V F S T) : Type 0 where
    pub size : (2 ≤ board.processes) × (board.processes ≤ 16)
    pub some : 0 < family.width
    pub processes : family.processes board.family ≡ board.processes
    pub opens : family.opening board.family ≡ board.first
    pub limit : family.limit board.family ≡ board.limit
    pub first : board.first.stamp ≡ first_stamp
    pub inside : pass.process < board.processes
    pub room : (pass.process + 1 ≡ board.processes → board.processes ≤ vec_capacity pass.room) × (pass.room.items ≡ [])
    pub seat : family.is_seat board.family pass.seat
    pub who : family.who pass.seat ≡ pass.process
    pub lawful : IsTrue (obeys pass.own.item)
    pub below : (j : ℕ) → j < board.processes → j ≢ pass.process →
        Rises (last_or board.first (family.writes pass.seat j).items) pass.own
    pub last : pass.told ≡ true → (j : ℕ) → j < board.processes → j ≢ pass.process →
        last_or board.first (family.writes pass.seat j).items ≡ pass.own
    pub made : (calls : List (Called V)) × HasMade board pass calls

  -- *Known*: it is the own record, or the record with a number of those that the process knows another one to have
  -- written to it, where the opening has number 0. These begin with all that the other one had really written to it by
  -- each receipt of its that the process learnt, and the number is no less than that of the last of them
  abbrev pub IsKnown : Board V F S T → Pass V F S T → Pass V F S T → Posted V → Type 0
  IsKnown board old new seen = (seen ≡ old.own) ⊎ ((j : ℕ) × (number : ℕ) × (j < board.processes) × (j ≢ old.process)
      × (slice_get (board.first ∷ (family.reads new.seat j).known.items) number ≡ Some seen)
      × AreHeeded (family.reads new.seat j).heard (family.reads new.seat j).known number)

  -- *Bounded*: it took at most 2 (n - 1) accesses, of at most three steps each
  pub record IsBounded (board : Board V F S T) (old new : Pass V F S T) : Type 0 where
    pub accesses : length (family.times new.seat)
        ≤ length (family.times old.seat) + 2 * (board.processes - 1) * family.width
    pub each : family.width ≤ 3

  -- *A call*: its process saw this record, the greatest of its own and of one answer of each other process, none of
  -- which is below what it was told of that one; and it wrote the record that it chose to each, or it wrote nothing,
  -- where it chose its own record, or found that the writer of what it chose had said this tag or a greater one. The
  -- call begins after all that the process knew of, and takes so many steps: of a read of each other process, and of a
  -- write to each where it tells what it chose, or one where it found this. All of the calls that were made with the
  -- pass are those made before and this one
  pub record IsCall (obeys : V → Bool) (board : Board V F S T) (kind : Kind) (old new : Pass V F S T)
      (seen : Posted V) : Type 0 where
    pub process : new.process ≡ old.process
    pub begin : ℕ
    pub end : ℕ
    pub interval : (family.clock old.seat < begin) × (begin ≤ end) × (family.clock new.seat ≡ end)
    pub answers : List (Posted V)
    pub each : length answers + 1 ≡ board.processes
    pub answered : (e : ℕ) (answer : Posted V) → slice_get answers e ≡ Some answer →
        IsFurtherAnswer obeys board.first (family.reads old.seat (other old.process e))
        (family.reads new.seat (other old.process e)) answer
    pub is_seen : seen ≡ greatest_posted old.own answers
    pub known : IsKnown board old new seen
    pub heeds : (j : ℕ) → j < board.processes → j ≢ old.process →
        All (λ t. IsAtMost t.stamp seen.stamp) (family.reads old.seat j).told
    pub heard : (j : ℕ) → j < board.processes → j ≢ old.process →
        IsMindful (family.reads old.seat j) (family.reads new.seat j)
    pub rises : Rises old.own seen
    pub onward : Rises seen new.own
    pub tells : Bool
    pub finds : Bool
    pub steps : length (family.times new.seat)
        ≡ length (family.times old.seat) + steps_of_call family.width board.processes tells finds
    pub written : tells ≡ true → (j : ℕ) → j < board.processes → j ≢ old.process →
        IsWriteAccess (family.writes old.seat j) (family.writes new.seat j) new.own
    pub unwritten : tells ≡ false → KeepsEach (family.writes old.seat) (family.writes new.seat)
    pub silent : tells ≡ false → finds ≡ false → (new.own ≡ old.own) × (new.told ≡ old.told)
    pub found : tells ≡ false → finds ≡ true → family.found new.seat ≡ family.found old.seat ++ record {
      who = new.own.stamp.writer;
      tag = new.own.stamp.tag;
      time = end;
    } ∷ []
    pub told : tells ≡ true → new.told ≡ true
    pub untold : tells ≡ false → finds ≡ true → new.told ≡ false
    pub made : (calls : List (Called V)) → HasMade board old calls → HasMade board new (calls ++ record {
      begin = begin;
      end = end;
      kind = kind;
      seen = stamped seen;
      chosen = stamped new.own;
      tells = tells;
      finds = finds;
    } ∷ [])

module _ {V F S T : Type 0} (family : FamilyWords F (Posted V) S T) where
  -- no call was made: whatever calls were made with the pass still are
  pub record HasSame (board : Board V F S T) (old new : Pass V F S T) : Type 0 where
    pub process : new.process ≡ old.process
    pub own : new.own ≡ old.own
    pub told : new.told ≡ old.told
    pub later : family.clock old.seat ≤ family.clock new.seat
    pub writes : KeepsEach (family.writes old.seat) (family.writes new.seat)
    pub made : (calls : List (Called V)) → HasMade family board old calls → HasMade family board new calls

module _ {V : Type 0} where
  -- what a write chooses, and answers: below the limit its item with the next stamp, else what was seen
  abbrev pub ChoosesStamp : ℕ → ℕ → V → Posted V → Posted V → Result Stamp (Refused V) → Type 0
  ChoosesStamp limit process item seen chosen (Ok s) =
      (seen.stamp.tag < limit) × (s ≡ record { tag = seen.stamp.tag + 1; writer = process })
      × (chosen ≡ record { stamp = s; item = item })
  ChoosesStamp limit process item seen chosen (Err e) = (limit ≤ seen.stamp.tag) × (e.seen ≡ seen) × (chosen ≡ seen)

  abbrev pub kind_of : Result Stamp (Refused V) → Kind
  kind_of (Ok s) = Write
  kind_of (Err e) = RefusedKind
