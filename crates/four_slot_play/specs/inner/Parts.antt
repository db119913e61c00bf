-- What the player holds: the operations that the steps begin, the ends of those that end, and a run over numbered
-- records. Only the player's private functions cite this, which is this project's own; what `play_cell` promises stands
-- in CellReports.
use Rattle.std.specs.Prelude.{◌≡◌, ℕ, ◌+◌, ◌*◌, ◌/◌, ◌%◌, ◌<◌, Bool, ◌&&◌, nat_eq, if◌then◌else◌, List, [], ◌∷◌, length}
use Rattle.std.specs.Prelude.{map, replicate}
use Rattle.std.specs.Prelude.{slice_get, Option, Some}
use Rattle.std.specs.Option.{option_map}
use Rattle.history_core.specs.declared.history.Op.{Op}
use Rattle.history_core.specs.declared.history.Kind.TheVariants.{Write as WriteKind, Read as ReadKind}
use Rattle.history_core.specs.declared.wish.Wish.{Wish}
use Rattle.history_core.specs.declared.wish.Wish.TheVariants.{Write, Read}
use Rattle.history_core.specs.Schedules.{positions, steps_of}
use Rattle.four_slot_core.specs.declared.schedule.Turn.{Turn}
use Rattle.four_slot_core.specs.declared.schedule.Turn.TheVariants.{Writer, Reader}
use Rattle.four_slot_play.specs.declared.player.steps.Made.{Made}
use Rattle.four_slot_play.specs.declared.player.steps.Started.{Started}
use Rattle.four_slot_play.specs.declared.player.run.Numbered.{Numbered}
use Rattle.four_slot_core.specs.Play.{actor}

abbrev pub made_by : Turn → Made → ℕ
made_by Writer made = made.writer
made_by Reader made = made.reader

abbrev pub counted : Turn → Made → Made
counted Writer made = record made { writer = made.writer + 1 }
counted Reader made = record made { reader = made.reader + 1 }

abbrev pub started : Turn → ℕ → ℕ → Started
started turn number starts = record { turn = turn; number = number; starts = starts }

-- the operation that step number `step` of a side begins
abbrev pub begun_by : Turn → ℕ → ℕ → List Started
begun_by turn step position = if nat_eq (step % 5) 0 then started turn (step / 5) position ∷ [] else []

-- the operations that the steps of these actors begin, in order of beginning
pub record IsPartsOf (steps : List ℕ) (parts : List Started) : Type 0 where
  pub each : (p : ℕ) (part : Started) → slice_get parts p ≡ Some part →
      slice_get (positions 0 (actor part.turn) steps) (part.number * 5 + 0) ≡ Some part.starts
  pub all : (turn : Turn) (k begin : ℕ) → slice_get (positions 0 (actor turn) steps) (k * 5 + 0) ≡ Some begin →
      (p : ℕ) × (slice_get parts p ≡ Some (started turn k begin))
  pub rising : (p q : ℕ) (a b : Started) → slice_get parts p ≡ Some a → slice_get parts q ≡ Some b → p < q →
      a.starts < b.starts

abbrev pub noted : {T : Type 0} → Bool → T → List T
noted here item = if here then item ∷ [] else []

-- the position of this access of each operation of an actor that makes it
pub record IsAccessesOf (who access : ℕ) (steps all : List ℕ) : Type 0 where
  pub each : (k : ℕ) → slice_get all k ≡ slice_get (positions 0 who steps) (k * 5 + access)
  pub rest : ℕ
  pub last : access + rest ≡ 4
  pub long : length all ≡ (steps_of who steps + rest) / 5

-- step number `step` of this turn is this access of an operation of the side
abbrev pub makes : Turn → ℕ → Turn → ℕ → Bool
makes turn step side access = nat_eq (actor turn) (actor side) && nat_eq (step % 5) access

-- what the steps of these actors say of the operations
pub record IsOperationsOf (steps : List ℕ) (parts : List Started)
    (writer_ends reader_ends stores : List ℕ) : Type 0 where
  pub are_parts : IsPartsOf steps parts
  pub are_writer_ends : IsAccessesOf 0 4 steps writer_ends
  pub are_reader_ends : IsAccessesOf 1 4 steps reader_ends
  pub are_stores : IsAccessesOf 0 3 steps stores

-- what a side is to do
abbrev pub plan_of : {R : Type 0} → Turn → List R → ℕ → List (Wish R)
plan_of Writer writes reads = map Write writes
plan_of Reader writes reads = replicate reads Read

-- the operation of a part: it ends where its side's operation of that number does; a write has the schedule's item, a
-- read its answer
abbrev pub op_by : {R : Type 0} → Turn → ℕ → ℕ → List R → List ℕ → List ℕ → List (Numbered R) → Op R
op_by Writer number starts writes writer_ends reader_ends answers =
    record {
      who = 0;
      kind = WriteKind;
      starts = starts;
      ends = slice_get writer_ends number;
      item = slice_get writes number;
    }
op_by Reader number starts writes writer_ends reader_ends answers =
    record {
      who = 1;
      kind = ReadKind;
      starts = starts;
      ends = slice_get reader_ends number;
      item = option_map (λ (a : Numbered _). a.item) (slice_get answers number);
    }

abbrev pub op_of : {R : Type 0} → List R → List ℕ → List ℕ → List (Numbered R) → Started → Op R
op_of writes writer_ends reader_ends answers part =
    op_by part.turn part.number part.starts writes writer_ends reader_ends answers

-- and its slot
abbrev pub slot_by : Turn → ℕ → List ℕ → List ℕ → Option ℕ
slot_by Writer number write_slots read_slots = slice_get write_slots number
slot_by Reader number write_slots read_slots = slice_get read_slots number

abbrev pub slot_of : List ℕ → List ℕ → Started → Option ℕ
slot_of write_slots read_slots part = slot_by part.turn part.number write_slots read_slots
