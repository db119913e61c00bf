-- What a cell in play has told, as a fold of its steps. Only private functions cite this, which is this project's own.
use Rattle.std.specs.Prelude.{ℕ, ◌+◌, List, length}
use Rattle.std.specs.List.{fold}
use Rattle.four_slot_core.specs.declared.schedule.Turn.{Turn}
use Rattle.four_slot_core.specs.declared.schedule.Turn.TheVariants.{Writer, Reader}
use Rattle.four_slot_core.specs.declared.state.State.{State}
use Rattle.four_slot_core.specs.declared.state.Stage.{Stage}
use Rattle.four_slot_core.specs.declared.state.Stage.TheVariants.{W5}
use Rattle.four_slot_core.specs.declared.state.ReaderStage.{ReaderStage}
use Rattle.four_slot_core.specs.declared.state.ReaderStage.TheVariants.{R4}
use Rattle.four_slot_core.specs.Events.{after_read, after_write, answer, bit_number, next_reader, next_write}
use Rattle.four_slot_core.specs.Events.{opening_state, slot_number}
use Rattle.four_slot_core.specs.Traces.{Trace}
use Rattle.cell_steps.specs.Steps.{last_or, noise, read_number, turn_of, write_number}
use Rattle.cell_steps.specs.declared.in_play.InPlay.{InPlay}
use Rattle.cell_steps.specs.declared.shown.Shown.{Shown}

pub record Seen : Type 0 where
  pub cell : State ℕ
  pub begun : ℕ
  pub write_event : ℕ
  pub read_event : ℕ
  pub answer : ℕ

abbrev pub in_play : InPlay → Seen
in_play p =
    record { cell = p.cell; begun = p.begun; write_event = p.write_event; read_event = p.read_event; answer = p.answer }

-- what a trace shows
abbrev pub seen_of : Trace ℕ → Seen
seen_of t =
    record {
      cell = t.cell;
      begun = length t.write_slots;
      write_event = write_number t.cell.writer;
      read_event = read_number t.cell.reader;
      answer = last_or 0 t.answers;
    }

-- W1, which comes after W5, begins a write
abbrev pub begun_after : Stage → ℕ → ℕ
begun_after W5 begun = begun + 1
begun_after _ begun = begun

-- R5, which comes after R4, answers
abbrev pub answer_after : ReaderStage → ℕ → ℕ → ℕ
answer_after R4 before now = now
answer_after _ before now = before

abbrev pub step_of : Seen → Turn → Seen
step_of s Writer =
    record s {
      cell = after_write s.cell.writer (s.begun + 1) s.cell;
      begun = begun_after s.cell.writer s.begun;
      write_event = write_number (next_write s.cell.writer);
    }
step_of s Reader =
    record s {
      cell = after_read s.cell.reader s.cell;
      read_event = read_number (next_reader s.cell.reader);
      answer = answer_after s.cell.reader s.answer (answer s.cell);
    }

abbrev pub start : Seen
start = record { cell = opening_state 0 noise; begun = 0; write_event = 5; read_event = 5; answer = 0 }

abbrev pub play_of : List ℕ → Seen
play_of letters = fold (λ s letter. step_of s (turn_of letter)) start letters

abbrev pub shown_in : Seen → Shown
shown_in s =
    record {
      latest = bit_number s.cell.latest;
      reading = bit_number s.cell.reading;
      slot_zero = bit_number s.cell.slot.zero;
      slot_one = bit_number s.cell.slot.one;
      write_event = s.write_event;
      read_event = s.read_event;
      write_slot = slot_number s.cell.write;
      read_slot = slot_number s.cell.read;
      answer = s.answer;
    }
