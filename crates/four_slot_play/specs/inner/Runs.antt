-- What the player makes of a schedule: the run over numbered records, and the report from it and from the steps alone.
-- Only the player's private functions cite this, which is this project's own; what `play_cell` promises stands in
-- CellReports.
use Rattle.std.specs.Prelude.{◌≡◌, ℕ, ◌+◌, List, [], ◌∷◌, length, map, Option}
use Rattle.std.specs.List.{fold}
use Rattle.history_core.specs.Schedules.{max_limit}
use Rattle.history_core.specs.declared.history.Op.{Op}
use Rattle.history_core.specs.declared.history.Term.{Term}
use Rattle.four_slot_core.specs.declared.schedule.Turn.{Turn}
use Rattle.four_slot_core.specs.declared.schedule.Turn.TheVariants.{Writer, Reader}
use Rattle.four_slot_play.specs.declared.player.run.Numbered.{Numbered}
use Rattle.four_slot_play.specs.declared.player.steps.Started.{Started}
use Rattle.four_slot_play.specs.declared.player.run.InPlay.{InPlay}
use Rattle.four_slot_core.specs.declared.state.State.{State}
use Rattle.four_slot_core.specs.Events.{after_read, after_write, answer, slot_number}
use Rattle.four_slot_core.specs.Traces.{Trace, answered_by_read, moments_from, shown_by_read, shown_by_write, trace}
use Rattle.four_slot_core.specs.Traces.{trace_start}
use Rattle.four_slot_core.specs.Play.{actor, item_of}
use Rattle.four_slot_play.specs.inner.Parts.{IsPartsOf, IsAccessesOf, op_of, slot_of}
use Rattle.four_slot_play.specs.inner.Weaves.{IsOrdered}

-- what a run has shown so far
pub record Log (R : Type 0) : Type 0 where
  pub cell : State R
  pub write_slots : List ℕ
  pub read_slots : List ℕ
  pub answers : List R

abbrev pub log_of : {R : Type 0} → Trace R → Log R
log_of t = record { cell = t.cell; write_slots = t.write_slots; read_slots = t.read_slots; answers = t.answers }

abbrev pub shown : {R : Type 0} → InPlay R → Log (Numbered R)
shown r =
    record {
      cell = r.cell;
      write_slots = r.write_slots.items;
      read_slots = r.read_slots.items;
      answers = r.answers.items;
    }

abbrev pub after_writer : {R : Type 0} → R → Log R → Log R
after_writer item log =
    record log {
      cell = after_write log.cell.writer item log.cell;
      write_slots =
          shown_by_write log.cell.writer log.write_slots
          (slot_number (after_write log.cell.writer item log.cell).write);
    }

abbrev pub after_reader : {R : Type 0} → Log R → Log R
after_reader log =
    record log {
      cell = after_read log.cell.reader log.cell;
      read_slots =
          shown_by_read log.cell.reader log.read_slots (slot_number (after_read log.cell.reader log.cell).read);
      answers =
          answered_by_read log.cell.reader log.answers (answer log.cell);
    }

abbrev pub step_of : {R : Type 0} → (ℕ → R) → Log R → Turn → Log R
step_of items log Writer = after_writer (items (length log.write_slots)) log
step_of items log Reader = after_reader log

-- write k has the number k + 1
abbrev pub numbered : {R : Type 0} → R → List R → ℕ → Numbered R
numbered opening writes k = record { number = k + 1; item = item_of opening writes k }

abbrev pub opening_record : {R : Type 0} → R → Numbered R
opening_record opening = record { number = 0; item = opening }

abbrev pub numbered_trace : {R : Type 0} → R → R → List R → List Turn → Trace (Numbered R)
numbered_trace opening noise writes steps =
    trace (opening_record opening) (opening_record noise) (numbered opening writes) (moments_from 0 steps)

abbrev pub numbered_run : {R : Type 0} → R → R → List R → List Turn → Log (Numbered R)
numbered_run opening noise writes steps =
    fold (step_of (numbered opening writes))
    (log_of (trace_start (opening_record opening) (opening_record noise))) steps

pub record IsAssembled {R : Type 0} (log : Log (Numbered R)) (steps : List Turn) (writes : List R) (terms : List Term)
    (ops : List (Op R))
    (slots : List (Option ℕ)) (order : List ℕ) : Type 0 where
  pub parts : List Started
  pub writer_ends : List ℕ
  pub reader_ends : List ℕ
  pub stores : List ℕ
  pub are_parts : IsPartsOf (map actor steps) parts
  pub are_writer_ends : IsAccessesOf 0 4 (map actor steps) writer_ends
  pub are_reader_ends : IsAccessesOf 1 4 (map actor steps) reader_ends
  pub are_stores : IsAccessesOf 0 3 (map actor steps) stores
  pub terms_are : terms ≡ record { first = 0; limit = max_limit } ∷ []
  pub ops_are : ops ≡ map (op_of writes writer_ends reader_ends log.answers) parts
  pub slots_are : slots ≡ map (slot_of log.write_slots log.read_slots) parts
  pub ordered : IsOrdered parts (length stores) log.answers order
