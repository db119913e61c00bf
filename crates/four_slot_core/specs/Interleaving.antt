-- Two lists of events, one of each side, in any order that keeps each side's own (this project's definition).
use Rattle.std.specs.Prelude.{◌≡◌, List, [], ◌∷◌}
use Rattle.four_slot_core.specs.declared.state.State.{State}
use Rattle.four_slot_core.specs.declared.state.Stage.{Stage}
use Rattle.four_slot_core.specs.declared.state.Stage.TheVariants as stage
use Rattle.four_slot_core.specs.declared.state.ReadStage.{ReadStage}
use Rattle.four_slot_core.specs.declared.state.ReadStage.TheVariants as told
use Rattle.four_slot_core.specs.declared.event.WriteEvent.{WriteEvent}
use Rattle.four_slot_core.specs.declared.event.WriteEvent.TheVariants.{W1, W2, W3, W4, W5}
use Rattle.four_slot_core.specs.declared.event.ReadEvent.{ReadEvent}
use Rattle.four_slot_core.specs.declared.event.ReadEvent.TheVariants.{R1, R2, R3, R4, R5}
use Rattle.four_slot_core.specs.Events.{IsWriteEvent, IsReadEvent}

-- the stage of an event of the writer, and the item of its call, which counts at W1 alone
abbrev pub write_stage : {R : Type 0} → WriteEvent R → Stage
write_stage (W1 x) = stage.W1
write_stage W2 = stage.W2
write_stage W3 = stage.W3
write_stage W4 = stage.W4
write_stage W5 = stage.W5

abbrev pub write_item : {R : Type 0} → WriteEvent R → State R → R
write_item (W1 x) s = x.value
write_item _ s = s.item

-- an event of the reader, as a step tells it
abbrev pub read_stage : {R : Type 0} → ReadEvent R → ReadStage R
read_stage R1 = told.R1
read_stage R2 = told.R2
read_stage R3 = told.R3
read_stage R4 = told.R4
read_stage (R5 x) = told.R5 x.value

-- the event is its side's next in the first state, with its item or answer, and leads to the second
abbrev pub Writes : {R : Type 0} → WriteEvent R → State R → State R → Type 0
Writes e s t = IsWriteEvent (write_item e s) s (write_stage e) t

abbrev pub Reads : {R : Type 0} → ReadEvent R → State R → State R → Type 0
Reads e s t = IsReadEvent s (read_stage e) t

-- some interleaving of the two lists leads from the first state to the second: both are empty and the states are the
-- same; or the first event of one list leads to a state from which some interleaving of the others does
pub data Leads {R : Type 0} : List (WriteEvent R) → List (ReadEvent R) → State R → State R → Type 0 where
  Stays : (s t : State R) → s ≡ t → Leads [] [] s t
  WriterFirst : (e : WriteEvent R) (ws : List (WriteEvent R)) (rs : List (ReadEvent R)) (s m t : State R) →
      Writes e s m → Leads ws rs m t → Leads (e ∷ ws) rs s t
  ReaderFirst : (e : ReadEvent R) (ws : List (WriteEvent R)) (rs : List (ReadEvent R)) (s m t : State R) → Reads e s m →
      Leads ws rs m t → Leads ws (e ∷ rs) s t

-- the record of the last finished write after these events of the writer, from the item of the write in progress and
-- the record of the last finished write before them: W1 takes an item, and W5 finishes the write
abbrev pub last_finished : {R : Type 0} → List (WriteEvent R) → R → R → R
last_finished [] item last = last
last_finished (W1 x ∷ ws) item last = last_finished ws x.value last
last_finished (W5 ∷ ws) item last = last_finished ws item item
last_finished (_ ∷ ws) item last = last_finished ws item last
