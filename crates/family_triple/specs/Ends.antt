-- What a cell shows of its calls.
use Rattle.std.proofs.Common.{◌≡◌, ℕ, sym, ap, ◌∙◌, subst}
use mathlib.Core.Option.{some}
use lib.ListN.{get_elem?}
use Rattle.atomic_table.specs.Table.{State}
use Rattle.cell_triple.specs.declared.notes.WriterNotes.{WriterNotes}
use Rattle.cell_triple.specs.declared.notes.ReaderNotes.{ReaderNotes}
use Rattle.cell_contract.specs.declared.sight.Sight.TheVariants.{Writer, Reader}
use Rattle.cell_triple.specs.Rule.{TripleRule}
use Rattle.cell_triple.specs.Steps.{TripleSight}
use Rattle.cell_triple.proofs.Timing.{timed_atomic}
use Rattle.family_triple.specs.Triples.{CellRule}
use Rattle.family_table.specs.Ends.{CellEnds}
use Rattle.family_triple.specs.Tables.{IsDone, Done}

module _ {T : Type 0} (fits : T → Type 0) (rises : T → T → Type 0) (o : T) where
  -- one cell, with its writer's notes and its reader's
  cell_done : (s : State T (TripleSight T)) (r : TripleRule fits rises o s) (i j : ℕ) (p : WriterNotes T)
      (g : ReaderNotes T) → get_elem? s.views i ≡ some (Writer p) → get_elem? s.views j ≡ some (Reader g) → IsDone o p g
  cell_done s r i j p g there here =
      let put_is : p ≡ r.put = (r.each_seat i (Writer p) there).0 in
      let get_is : g ≡ r.get = (r.each_seat j (Reader g) here).0 in
      subst (λ (z : WriterNotes T × ReaderNotes T). IsDone o z.0 z.1) (λ k. (sym put_is k, sym get_is k)) (record {
        atomic = timed_atomic o r.put r.get r.now r.timed;
        ended = r.timed.ended_writes ∙ sym r.timed.begun_writes;
        known = r.known;
      })

  pub cell_ends : CellEnds (CellRule fits rises o) (Done o)
  cell_ends now s i j v w r there here p g is_writer is_reader =
      cell_done s r.0 i j p g (there ∙ ap some is_writer) (here ∙ ap some is_reader)
