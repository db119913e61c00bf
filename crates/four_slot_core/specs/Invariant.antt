-- What every state of a cell keeps (this project's invariant). A writer between W1 and W5 has made W1
-- and not W5; so with the others.
use Rattle.std.specs.Prelude.{◌≡◌, ◌≢◌, false, not, Some, ◌⊎◌}
use Rattle.four_slot_core.specs.declared.state.Slot.{Slot}
use Rattle.four_slot_core.specs.declared.state.State.{State}
use Rattle.four_slot_core.specs.declared.state.Stage.{Stage}
use Rattle.four_slot_core.specs.declared.state.Stage.TheVariants.{W3, W4, W5}
use Rattle.four_slot_core.specs.declared.state.ReaderStage.{ReaderStage}
use Rattle.four_slot_core.specs.declared.state.ReaderStage.TheVariants.{R1, R2, R3, R4}
use Rattle.four_slot_core.specs.Events.{side, record_in, slot_with}

-- after this event a write is under way, from W1 to W5
abbrev pub IsUnderWay : Stage → Type 0
IsUnderWay W5 = ⊥
IsUnderWay _ = Unit {0}

-- it has a slot of its own, from W1 to W4
abbrev pub HasSlot : Stage → Type 0
HasSlot W4 = ⊥
HasSlot W5 = ⊥
HasSlot _ = Unit {0}

-- its slot has its record, from W3 to W5
abbrev pub IsFilled : Stage → Type 0
IsFilled W3 = Unit {0}
IsFilled W4 = Unit {0}
IsFilled _ = ⊥

-- its index is stored and its pair is not, from W4 to W5
abbrev pub IsStored : Stage → Type 0
IsStored W4 = Unit {0}
IsStored _ = ⊥

-- a read has loaded its pair and not stored it, from R1 to R2
abbrev pub IsLoaded : ReaderStage → Type 0
IsLoaded R1 = Unit {0}
IsLoaded _ = ⊥

-- its pair is stored, from R2 to R5
abbrev pub IsAnnounced : ReaderStage → Type 0
IsAnnounced R2 = Unit {0}
IsAnnounced R3 = Unit {0}
IsAnnounced R4 = Unit {0}
IsAnnounced _ = ⊥

-- it has its index, from R3 to R5
abbrev pub HasIndex : ReaderStage → Type 0
HasIndex R3 = Unit {0}
HasIndex R4 = Unit {0}
HasIndex _ = ⊥

-- it is in its slot, from R4 to R5
abbrev pub IsReading : ReaderStage → Type 0
IsReading R4 = Unit {0}
IsReading _ = ⊥

-- the slot that the last R3 chose is kept, from R3 to the next R2
abbrev pub IsKept : ReaderStage → Type 0
IsKept R2 = ⊥
IsKept _ = Unit {0}

-- the slot that latest and its slot bit name
abbrev pub latest_slot : {R : Type 0} → State R → Slot
latest_slot s = slot_with s.latest (side s.slot s.latest)

-- the invariant at these last events of the writer and the reader; last is the record of the last finished write
pub record IsSoundAt {R : Type 0} (writer : Stage) (reader : ReaderStage) (s : State R) (last : R) : Type 0 where
  pub loaded : IsLoaded reader → (s.read.pair ≡ s.latest) ⊎ (s.read.pair ≡ s.reading)
  pub followed : IsUnderWay writer → s.write.pair ≢ s.latest → s.reading ≡ s.latest
  pub kept : (c : Slot) → IsKept reader → s.chosen ≡ Some c → s.reading ≡ c.pair
  pub apart : (c : Slot) → IsKept reader → s.chosen ≡ Some c → HasSlot writer → s.write ≢ c
  pub announced : IsAnnounced reader → s.reading ≡ s.read.pair
  pub taken : HasIndex reader → s.chosen ≡ Some s.read
  pub remembered : s.remembered ≡ s.slot
  pub opposite : HasSlot writer → s.write.index ≡ not (side s.slot s.write.pair)
  pub stored : IsStored writer → s.write.index ≡ side s.slot s.write.pair
  pub current_new : IsStored writer → s.write.pair ≡ s.latest → record_in s.records (latest_slot s) ≡ s.item
  pub current_last : (IsStored writer → s.write.pair ≢ s.latest) → record_in s.records (latest_slot s) ≡ last
  pub filled : IsFilled writer → record_in s.records s.write ≡ s.item

abbrev pub IsSound : {R : Type 0} → State R → R → Type 0
IsSound s last = IsSoundAt s.writer s.reader s last

-- the record of the last finished write, after the writer's next event
abbrev pub last_after : {R : Type 0} → Stage → State R → R → R
last_after W4 s last = s.item
last_after _ s last = last

-- a slot read in progress has met no write
abbrev pub IsUnmet : {R : Type 0} → State R → Type 0
IsUnmet s = IsReading s.reader → s.met ≡ false
