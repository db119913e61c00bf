-- What the turns of running tasks are (this project's own).
use Rattle.std.specs.Prelude.{◌≡◌, ◌<◌, Bool, nat_le, ℕ, List, [], ◌∷◌, ◌++◌, length, Result, nat_lt, if◌then◌else◌}
use Rattle.history_core.specs.declared.history.Kind.{Kind}
use Rattle.history_core.specs.declared.history.Kind.TheVariants.{Write, Read}
use Rattle.cell_contract.specs.declared.family.Family.{Ghosts as FamilyWords}
use Rattle.matrix_core.specs.declared.stamp.Stamp.{Stamp}
use Rattle.matrix_core.specs.Stamps.{first_stamp}
use Rattle.board_history.specs.BoardRuns.{Called, Did}
use Rattle.board_live.specs.declared.board.Board.{Board}
use Rattle.board_live.specs.declared.board.Pass.{Pass}
use Rattle.board_live.specs.declared.board.Refused.{Refused}
use Rattle.board_live.specs.declared.record.Posted.{Posted}
use Rattle.board_live.specs.Ends.{IsAtomicRun}
use Rattle.board_live.specs.Passes.{ChoosesStamp, HasMade, IsCall, IsPass, kind_of}
use Rattle.board_live.specs.Records.{stamped}
use Rattle.example_control.specs.declared.control.Control.{Control}

-- the limits are in order
abbrev pub in_order : Control → Bool
in_order c = nat_le c.low c.high

-- the reading, but not beyond its limits
abbrev pub command_of : Control → ℕ
command_of c = if nat_lt c.reading c.low then c.low else if nat_lt c.high c.reading then c.high else c.reading

-- new limits beside the reading that was seen
abbrev pub with_limits : ℕ → ℕ → Control → Control
with_limits low high seen = record { low = low; reading = seen.reading; high = high }

-- a new reading within the limits that were seen
abbrev pub with_reading : ℕ → Control → Control
with_reading reading seen = record { low = seen.low; reading = reading; high = seen.high }

-- what each writing task makes of the record that it sees
abbrev pub SetsLimits : (Control → Control) → Type 0
SetsLimits make = (low : ℕ) × (high : ℕ) × (make ≡ with_limits low high)

abbrev pub Publishes : (Control → Control) → Type 0
Publishes make = (reading : ℕ) × (make ≡ with_reading reading)

module _ {M : Type 0} (was_sent : M → ℕ → M → Type 0) where
  -- the calls are reads, and the motor was sent the command of each record that they gave, in turn
  abbrev pub Drives : M → List (Called Control) → M → Type 0
  Drives before [] after = after ≡ before
  Drives before (c ∷ cs) after = (next : M) × (c.kind ≡ Read) × was_sent before (command_of c.chosen.item) next
      × Drives next cs after

module _ {F S T : Type 0} (words : FamilyWords F (Posted Control) S T) where
  -- a call, with its interval, what it saw and what it chose
  abbrev pub call_of : (board : Board Control F S T) (kind : Kind) (old new : Pass Control F S T)
      (seen : Posted Control) → IsCall words in_order board kind old new seen → Called Control
  call_of board kind old new seen c = record {
    begin = c.begin;
    end = c.end;
    kind = kind;
    seen = stamped seen;
    chosen = stamped new.own;
    tells = c.tells;
    finds = c.finds;
  }

  -- a read, after which the pass has the record that was read
  pub record MakesRead (board : Board Control F S T) (old new : Pass Control F S T) : Type 0 where
    pub of : IsPass words in_order board new
    pub call : IsCall words in_order board Read old new new.own

  -- a write of this record, which is refused where the tags have ended
  pub record MakesWrite (board : Board Control F S T) (item : Control) (old new : Pass Control F S T)
      (result : Result Stamp (Refused Control)) : Type 0 where
    pub of : IsPass words in_order board new
    pub seen : Posted Control
    pub call : IsCall words in_order board (kind_of result) old new seen
    pub chooses : ChoosesStamp board.limit old.process item seen new.own result

  -- *A turn of a task that writes*: it reads, and writes what it makes of the record that it read
  pub record TakesTurn (board : Board Control F S T) (make : Control → Control) (old new : Pass Control F S T)
      (result : Result Stamp (Refused Control)) : Type 0 where
    pub between : Pass Control F S T
    pub reads : MakesRead board old between
    pub writes : MakesWrite board (make between.own.item) between new result

  -- the two calls of a turn, after those before
  abbrev pub with_turn : (board : Board Control F S T) (make : Control → Control) (old new : Pass Control F S T)
      (result : Result Stamp (Refused Control)) → List (Called Control) → TakesTurn board make old new result →
      List (Called Control)
  with_turn board make old new result calls t =
      (calls ++ call_of board Read old t.between t.between.own t.reads.call ∷ [])
      ++ call_of board (kind_of result) t.between new t.writes.seen t.writes.call ∷ []

  -- turns, one after the other, and their calls
  pub data Turns (board : Board Control F S T) (Makes : (Control → Control) → Type 0) (old : Pass Control F S T)
      : List (Called Control) → Pass Control F S T → Type 0 where
    no_turn : Turns board Makes old [] old
    one_more : (calls : List (Called Control)) (make : Control → Control) (now new : Pass Control F S T)
        (result : Result Stamp (Refused Control)) → Turns board Makes old calls now →
        Makes make → (t : TakesTurn board make now new result)
        → Turns board Makes old (with_turn board make now new result calls t) new

  -- *The turns of a task that writes*: one or more, in each of which it makes such a record
  pub record HasTakenTurns (board : Board Control F S T) (Makes : (Control → Control) → Type 0)
      (old new : Pass Control F S T) : Type 0 where
    pub calls : List (Called Control)
    pub turns : Turns board Makes old calls new
    pub some : 0 < length calls

  -- reads, one after the other
  pub data HasReadInTurn (board : Board Control F S T) (old : Pass Control F S T) : List (Called Control) →
      Pass Control F S T → Type 0 where
    no_read : HasReadInTurn board old [] old
    one_read : (calls : List (Called Control)) (now new : Pass Control F S T) →
        HasReadInTurn board old calls now → (r : MakesRead board now new)
        → HasReadInTurn board old (calls ++ call_of board Read now new new.own r.call ∷ []) new

  -- *The turns of a control loop*: one read or more and no other call, and the motor was
  -- sent the command of each of them
  pub record HasSteered {M : Type 0} (was_sent : M → ℕ → M → Type 0) (board : Board Control F S T)
      (old new : Pass Control F S T) (before after : M) : Type 0 where
    pub calls : List (Called Control)
    pub reads : HasReadInTurn board old calls new
    pub drives : Drives was_sent before calls after
    pub some : 0 < length calls

  -- *The whole run*: the motor was sent the commands of the third task's reads, in turn, and all calls of the three
  -- tasks are an atomic run of their board, which opened with this record: by an order that keeps the intervals, each
  -- read has the record that was written last before it, or the opening
  pub record HasControlled {M : Type 0} (was_sent : M → ℕ → M → Type 0) (opening : Control) (last : Posted Control)
      (before after : M) : Type 0 where
    pub board : Board Control F S T
    pub opened : board.first ≡ record { stamp = first_stamp; item = opening }
    pub limited : board.limit ≡ 18446744073709551614
    pub three : board.processes ≡ 3
    pub did : ℕ → Did Control
    pub drives : Drives was_sent before (did 2).calls after
    pub run : IsAtomicRun words board did last

-- a pass of this process with which no call was made yet
pub record IsFresh {V F S T : Type 0} (words : FamilyWords F (Posted V) S T) (obeys : V → Bool)
    (board : Board V F S T) (process : ℕ) (pass : Pass V F S T) : Type 0 where
  pub of : IsPass words obeys board pass
  pub who : pass.process ≡ process
  pub none : HasMade words board pass []

-- what three tasks begin with: a board that opened with this record, and the fresh passes of all
pub record AreDealt {F S T : Type 0} (words : FamilyWords F (Posted Control) S T) (opening : Control)
    (board : Board Control F S T) (p q r : Pass Control F S T) : Type 0 where
  pub opened : board.first ≡ record { stamp = first_stamp; item = opening }
  pub limited : board.limit ≡ 18446744073709551614
  pub three : board.processes ≡ 3
  pub limits : IsFresh words in_order board 0 p
  pub readings : IsFresh words in_order board 1 q
  pub steering : IsFresh words in_order board 2 r

-- *A receipt that crossed*: the two calls of two processes, of which the read began after the write
-- had ended, are an atomic run
pub record HasCrossed {V F S T : Type 0} (words : FamilyWords F (Posted V) S T) (board : Board V F S T)
    (item : V) (last : Posted V) : Type 0 where
  pub did : ℕ → Did V
  pub write : Called V
  pub read : Called V
  pub calls : ((did 0).calls ≡ write ∷ []) × ((did 1).calls ≡ read ∷ [])
  pub kinds : (write.kind ≡ Write) × (read.kind ≡ Read)
  pub written : write.chosen.item ≡ item
  pub later : write.end < read.begin
  pub run : IsAtomicRun words board did last
