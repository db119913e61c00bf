-- A family of four-slot cells (this project's own).
use Rattle.std.specs.Prelude.{◌≡◌, ◌≢◌, ℕ, ◌*◌, ◌<◌, ◌≤◌, nat_eq, cond, []}
use Rattle.atomic_table.specs.Table.{State, Me}
use Rattle.four_slot_core.specs.declared.state.Stage.TheVariants as writer
use Rattle.four_slot_core.specs.declared.state.ReaderStage.TheVariants as reader
use Rattle.cell_contract.specs.declared.sight.Sight.TheVariants.{Spent, Writer, Reader}
use Rattle.cell_four_slot.specs.declared.notes.WriterNotes.{WriterNotes}
use Rattle.cell_four_slot.specs.declared.notes.ReaderNotes.{ReaderNotes}
use Rattle.cell_four_slot.specs.Rule.{FourSlotRule}
use Rattle.cell_four_slot.specs.Steps.{FourSlotSight, first_writer, first_reader, clock_of}
use Rattle.family_table.specs.declared.notes.Process.{Process}
use Rattle.family_table.specs.declared.notes.View.{View}
use Rattle.family_table.specs.declared.notes.View.TheVariants.{Has}
use Rattle.family_table.specs.Family.{FamilyRule, of_cell}
use Rattle.family_four_slot.specs.Places.{four_slots}
use Rattle.family_table.specs.Places.{place, writer_of, reader_of}
use Rattle.family_table.specs.Places.{upto}

module _ {T : Type 0} where
  -- what a process knows of cell k at the start
  abbrev pub first_part : T → ℕ → ℕ → ℕ → FourSlotSight T
  first_part o n i k =
      cond (nat_eq i (writer_of n k)) (Writer (first_writer o))
      (cond (nat_eq i (reader_of n k)) (Reader (first_reader o)) Spent)

  abbrev pub first_process : T → ℕ → ℕ → Process (FourSlotSight T)
  first_process o n i = record {
    who = i;
    clock = 0;
    times = [];
    held = [];
    parts = upto (first_part o n i) 0 (n * n);
    said = [];
    found = [];
  }

  abbrev pub first_view : T → ℕ → View (FourSlotSight T)
  first_view o n = Has (upto (first_process o n) 0 n)

  -- no call of this cell is under way
  abbrev pub Idle : FourSlotSight T → Type 0
  Idle (Writer p) = p.stage ≡ writer.W5
  Idle (Reader g) = g.stage ≡ reader.R5
  Idle _ = Unit {0}

  -- a cell's step, made at this time
  abbrev pub When : (ℕ → Me T (FourSlotSight T) → Type 0) → ℕ → ℕ → Me T (FourSlotSight T) → Type 0
  When happens t n m = happens n m × (clock_of m.0 ≡ t)

  -- *In shape*: process i of n writes the cell to each other one, and reads the cell from it
  pub record IsInShape (n i : ℕ) (v : Process (FourSlotSight T)) : Type 0 where
    pub row : (j : ℕ) → j < n → j ≢ i → (p : WriterNotes T) × (of_cell Spent (place n i j) v.parts ≡ Writer p)
    pub column : (j : ℕ) → j < n → j ≢ i → (g : ReaderNotes T) × (of_cell Spent (place n j i) v.parts ≡ Reader g)

  abbrev pub Shaped : ℕ → (ℕ → Process (FourSlotSight T) → Type 0) → ℕ → Process (FourSlotSight T) → Type 0
  Shaped n Plan i v = IsInShape n i v × Plan i v

  -- the rule of one cell up to a time, and of a family of n processes, each in shape and of its plan
  module _ (fits : T → Type 0) (rises : T → T → Type 0) (o : T) where
    abbrev pub CellRule : ℕ → State T (FourSlotSight T) → Type 0
    CellRule now s = (r : FourSlotRule fits rises o s) × (r.now ≤ now)

    abbrev pub FourSlotFamily : (ℕ → Process (FourSlotSight T) → Type 0) → ℕ → State T (View (FourSlotSight T)) → Type 0
    FourSlotFamily Plan n s = FamilyRule Spent (four_slots n) CellRule (Shaped n Plan) n s
