-- A family of triple buffers (this project's own).
use Rattle.std.specs.Prelude.{ℕ, ◌*◌, ◌≤◌, nat_eq, cond, []}
use Rattle.atomic_table.specs.Table.{State}
use Rattle.cell_contract.specs.declared.sight.Sight.TheVariants.{Spent, Writer, Reader}
use Rattle.cell_triple.specs.Rule.{TripleRule}
use Rattle.cell_triple.specs.Steps.{TripleSight, first_writer, first_reader}
use Rattle.family_table.specs.declared.notes.Process.{Process}
use Rattle.family_table.specs.declared.notes.View.{View}
use Rattle.family_table.specs.declared.notes.View.TheVariants.{Has}
use Rattle.family_table.specs.Family.{FamilyRule}
use Rattle.family_table.specs.Places.{upto}
use Rattle.family_table.specs.Places.{writer_of, reader_of}
use Rattle.family_triple.specs.Places.{triples}

module _ {T : Type 0} where
  -- what a process knows of cell k at the start
  abbrev pub first_part : T → ℕ → ℕ → ℕ → TripleSight T
  first_part o n i k =
      cond (nat_eq i (writer_of n k)) (Writer (first_writer o))
      (cond (nat_eq i (reader_of n k)) (Reader (first_reader o)) Spent)

  abbrev pub first_process : T → ℕ → ℕ → Process (TripleSight T)
  first_process o n i = record {
    who = i;
    clock = 0;
    times = [];
    held = [];
    parts = upto (first_part o n i) 0 (n * n);
    said = [];
    found = [];
  }

  abbrev pub first_view : T → ℕ → View (TripleSight T)
  first_view o n = Has (upto (first_process o n) 0 n)

  -- a receipt can be told and learnt at any time
  abbrev pub Any : TripleSight T → Type 0
  Any v = Unit {0}

  -- the rule of one cell up to a time, and of a family of n processes with their plans
  module _ (fits : T → Type 0) (rises : T → T → Type 0) (o : T) where
    abbrev pub CellRule : ℕ → State T (TripleSight T) → Type 0
    CellRule now s = (r : TripleRule fits rises o s) × (r.now ≤ now)

    abbrev pub TripleFamily : ℕ → (ℕ → Process (TripleSight T) → Type 0) → State T (View (TripleSight T)) → Type 0
    TripleFamily n Plan s = FamilyRule Spent (triples n) CellRule Plan n s
