-- What is shown of a four-slot cell that is stepped (this project's own; the events are those of H. Simpson, Four-slot
-- fully asynchronous communication mechanism, IEE Proceedings E, 1990).
use Rattle.std.specs.Prelude.{ℕ, ◌+◌, List, [], ◌∷◌, map, nat_eq, if◌then◌else◌}
use Rattle.four_slot_core.specs.declared.schedule.Turn.{Turn}
use Rattle.four_slot_core.specs.declared.schedule.Turn.TheVariants.{Writer, Reader}
use Rattle.four_slot_core.specs.declared.state.Stage.{Stage}
use Rattle.four_slot_core.specs.declared.state.Stage.TheVariants.{W1, W2, W3, W4, W5}
use Rattle.four_slot_core.specs.declared.state.ReaderStage.{ReaderStage}
use Rattle.four_slot_core.specs.declared.state.ReaderStage.TheVariants.{R1, R2, R3, R4, R5}
use Rattle.four_slot_core.specs.Events.{bit_number, slot_number}
use Rattle.four_slot_core.specs.Traces.{Trace, moments_from, trace}
use Rattle.cell_steps.specs.declared.shown.Shown.{Shown}

-- whose step a byte is: a letter w is the writer's, any other byte the reader's
abbrev pub turn_of : ℕ → Turn
turn_of letter = if nat_eq letter 119 then Writer else Reader

-- the answer of a read that meets a write, which is no write's number
abbrev pub noise : ℕ
noise = 18446744073709551615

-- a new cell after these steps, whose records are numbers: the opening's is 0, and write k has k + 1
abbrev pub cell_after : List ℕ → Trace ℕ
cell_after letters = trace 0 noise (λ k. k + 1) (moments_from 0 (map turn_of letters))

-- the number of an event
abbrev pub write_number : Stage → ℕ
write_number W1 = 1
write_number W2 = 2
write_number W3 = 3
write_number W4 = 4
write_number W5 = 5

abbrev pub read_number : ReaderStage → ℕ
read_number R1 = 1
read_number R2 = 2
read_number R3 = 3
read_number R4 = 4
read_number R5 = 5

-- the last one, or `first` where there is none
abbrev pub last_or : ℕ → List ℕ → ℕ
last_or first [] = first
last_or first (x ∷ xs) = last_or x xs

abbrev pub shown_of : Trace ℕ → Shown
shown_of t =
    record {
      latest = bit_number t.cell.latest;
      reading = bit_number t.cell.reading;
      slot_zero = bit_number t.cell.slot.zero;
      slot_one = bit_number t.cell.slot.one;
      write_event = write_number t.cell.writer;
      read_event = read_number t.cell.reader;
      write_slot = slot_number t.cell.write;
      read_slot = slot_number t.cell.read;
      answer = last_or 0 t.answers;
    }
