-- What a read of one cell makes of a seat (this project's own).
use Rattle.std.specs.Prelude.{◌≡◌, ℕ, ◌<◌, Bool, true, false, List, ◌∷◌, ◌++◌}
use Rattle.atomic_table.specs.Table.{Me}
use Rattle.four_slot_core.specs.Events.{slot_with, slot_number}
use Rattle.cell_contract.specs.Intervals.{AreHeeded}
use Rattle.cell_contract.specs.Rows.{SeesNew}
use Rattle.cell_contract.specs.Running.{IsAnswer}
use Rattle.cell_contract.specs.declared.sight.Sight.TheVariants.{Reader}
use Rattle.cell_contract.specs.declared.times.Known.{Known}
use Rattle.cell_four_slot.specs.declared.notes.ReaderNotes.{ReaderNotes}
use Rattle.cell_four_slot.specs.Steps.{FourSlotSight, asked_by, said_with, got_by, slot_of_choice, HasAnswered}
use Rattle.family_table.specs.declared.notes.Process.{Process}
use Rattle.family_table.specs.declared.notes.View.{View}
use Rattle.family_table.specs.Layouts.{shift}
use Rattle.family_four_slot.specs.Places.{slot_at}
use Rattle.family_four_slot.specs.Steps.{After, has_asked, has_said}

-- After R1, R2 and R3, at three times: the seat's first slot, of this number, has the answer. If it hasn't moved, it is
-- that of the last answer, with the same record
pub record HasLooked {T : Type 0} (fits : T → Type 0) (rises : T → T → Type 0) (k : ℕ) (v : Process (FourSlotSight T))
    (g : ReaderNotes T) (old new : Me T (View (FourSlotSight T))) (slot : ℕ) (moved : Bool) : Type 0 where
  pub pair : Bool
  pub index : Bool
  pub answer : T
  pub asked : ℕ
  pub said : ℕ
  pub took : ℕ
  pub count : ℕ
  pub number : ℕ
  pub writes : Known T
  pub before : List (ℕ × T)
  pub behind : List (ℕ × T)
  pub slot_is : slot ≡ slot_number (slot_with pair index)
  pub had : old.1 ≡ before ++ (shift (slot_at k) (slot_of_choice g.chosen g.at_hand.value) ++ behind)
  pub later : (v.clock < asked) × (asked < said)
  pub after : After
      (has_said (has_asked v k g pair asked old.1) k (asked_by g pair asked) count said (before ++ behind)) k
      (Reader (got_by (said_with (asked_by g pair asked) count said) index answer took number writes)) took
      ((slot_at k slot, answer) ∷ (before ++ behind)) new
  pub may : IsAnswer fits rises g.opening.value g.answers g.told answer
  pub did : HasAnswered (said_with (asked_by g pair asked) count said)
      (got_by (said_with (asked_by g pair asked) count said) index answer took number writes) answer
  pub heeds : AreHeeded g.heard writes number
  pub again : moved ≡ false → answer ≡ g.at_hand.value

-- a read of one process shows each answer, or only where it is new
abbrev pub shown_by : {L T : Type 0} → Bool → (L → T → L → Type 0) → T → L → T → L → Type 0
shown_by true sees = λ last. sees
shown_by false sees = SeesNew sees
