-- What every state of a cell keeps of the numbers of its records, where a write's record has the number of the write:
-- the slot that a pair's bit names never gets an older record (this project's).
use Rattle.std.specs.Prelude.{◌≡◌, ℕ, ◌+◌, ◌≤◌, Bool, ◌⊎◌}
use Rattle.four_slot_core.specs.declared.state.State.{State}
use Rattle.four_slot_core.specs.declared.state.Stage.{Stage}
use Rattle.four_slot_core.specs.declared.state.ReaderStage.{ReaderStage}
use Rattle.four_slot_core.specs.declared.state.ReaderStage.TheVariants.{R1, R2, R5}
use Rattle.four_slot_core.specs.Events.{side, record_in, slot_with}
use Rattle.four_slot_core.specs.Invariant.{IsUnderWay, IsStored, HasIndex}

-- the record in the slot that a pair's bit names
abbrev pub named : {R : Type 0} → State R → Bool → R
named s p = record_in s.records (slot_with p (side s.slot p))

-- a read has its pair and not its index, from R1 to R3
abbrev pub IsBegun : ReaderStage → Type 0
IsBegun R1 = Unit {0}
IsBegun R2 = Unit {0}
IsBegun _ = ⊥

-- last: the record of the last finished write; prev: the number that the last R3 chose; floor: that of the last write
-- that was finished at the last R1
pub record IsFreshAt {R : Type 0} (writer : Stage) (reader : ReaderStage) (num : R → ℕ) (s : State R) (last : R)
    (prev floor : ℕ) : Type 0 where
  pub numbered : IsUnderWay writer → num s.item ≡ num last + 1
  pub top : (p : Bool) → (num (named s p) ≤ num last) ⊎ (IsStored writer × (p ≡ s.write.pair))
  pub past : prev ≤ num (named s s.latest)
  pub begun : IsBegun reader → (floor ≤ num (named s s.read.pair)) × (prev ≤ num (named s s.read.pair))
  pub held : HasIndex reader → num (record_in s.records s.read) ≡ prev
  pub fresh : HasIndex reader → floor ≤ prev

abbrev pub IsFresh : {R : Type 0} → (R → ℕ) → State R → R → ℕ → ℕ → Type 0
IsFresh num s last prev floor = IsFreshAt s.writer s.reader num s last prev floor

-- prev and floor after the reader's next event
abbrev pub prev_after : {R : Type 0} → ReaderStage → (R → ℕ) → State R → ℕ → ℕ
prev_after R2 num s prev = num (named s s.read.pair)
prev_after _ num s prev = prev

abbrev pub floor_after : {R : Type 0} → ReaderStage → (R → ℕ) → R → ℕ → ℕ
floor_after R5 num last floor = num last
floor_after _ num last floor = floor
