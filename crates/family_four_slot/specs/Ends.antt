-- What a cell shows of its calls.
use Rattle.std.proofs.Common.{◌≡◌, ℕ, sym, ap, ◌∙◌, subst}
use mathlib.Core.Option.{some}
use lib.ListN.{get_elem?}
use Rattle.atomic_table.specs.Table.{State}
use Rattle.four_slot_core.specs.declared.state.Stage.{Stage}
use Rattle.four_slot_core.specs.declared.state.Stage.TheVariants as writer
use Rattle.four_slot_core.specs.declared.state.ReaderStage.{ReaderStage}
use Rattle.four_slot_core.specs.declared.state.ReaderStage.TheVariants as reader
use Rattle.four_slot_core.specs.Invariant.{latest_slot}
use Rattle.cell_four_slot.specs.declared.notes.WriterNotes.{WriterNotes}
use Rattle.cell_four_slot.specs.declared.notes.ReaderNotes.{ReaderNotes}
use Rattle.cell_contract.specs.declared.sight.Sight.TheVariants.{Writer, Reader}
use Rattle.cell_four_slot.specs.Rule.{FourSlotRule, IsTimed, number_in, named_slot}
use Rattle.cell_four_slot.specs.Steps.{FourSlotSight}
use Rattle.cell_four_slot.proofs.Timing.{timed_at_any, timed_atomic}
use Rattle.history_core.specs.Registers.{intervals, IsRegular}
use Rattle.family_four_slot.specs.FourSlots.{CellRule}
use Rattle.family_table.specs.Ends.{CellEnds}
use Rattle.family_four_slot.specs.Tables.{IsDone, Done}

module _ {T : Type 0} (fits : T → Type 0) (rises : T → T → Type 0) (o : T) where
  -- one cell, with its writer's notes and its reader's
  cell_done : (s : State T (FourSlotSight T)) (r : FourSlotRule fits rises o s) (i j : ℕ) (p : WriterNotes T)
      (g : ReaderNotes T) → get_elem? s.views i ≡ some (Writer p) → get_elem? s.views j ≡ some (Reader g) →
      p.stage ≡ writer.W5 → g.stage ≡ reader.R5 → IsDone o p g
  cell_done s r i j p g there here idle rest =
      let a = r.each_seat i (Writer p) there in
      let b = r.each_seat j (Reader g) here in
      let put_is : p ≡ r.put = a.0 in
      let get_is : g ≡ r.get = b.0 in
      let shown : ℕ = number_in r.put.slots (latest_slot r.core) in
      let pair : ℕ = number_in r.put.slots (named_slot r.core r.core.read.pair) in
      let stage : r.core.writer ≡ writer.W5 =
      r.in_views.writer_at ∙ (ap (λ (z : WriterNotes T). z.stage) (sym put_is) ∙ idle) in
      let read : r.core.reader ≡ reader.R5 =
      r.in_views.reader_at ∙ (ap (λ (z : ReaderNotes T). z.stage) (sym get_is) ∙ rest) in
      let timed : IsTimed o r.put r.get r.now writer.W5 reader.R5 shown pair =
      subst (λ (z : Stage × ReaderStage). IsTimed o r.put r.get r.now z.0 z.1 shown pair)
      (λ k. (stage k, read k)) r.timed in
      subst (λ (z : WriterNotes T × ReaderNotes T). IsDone o z.0 z.1) (λ k. (sym put_is k, sym get_is k)) (record {
        atomic = timed_atomic o r.put r.get r.now shown pair writer.W5 timed;
        ended = timed.ended_writes ∙ sym timed.begun_writes;
        known = r.known;
      })

  -- at any stage of its two sides
  cell_regular : (s : State T (FourSlotSight T)) (r : FourSlotRule fits rises o s) (i j : ℕ) (p : WriterNotes T)
      (g : ReaderNotes T) → get_elem? s.views i ≡ some (Writer p) → get_elem? s.views j ≡ some (Reader g) →
      IsRegular o p.written (intervals p.times.begins p.times.ends) g.answers g.numbers
      (intervals g.times.begins g.times.ends)
  cell_regular s r i j p g there here =
      let put_is : p ≡ r.put = (r.each_seat i (Writer p) there).0 in
      let get_is : g ≡ r.get = (r.each_seat j (Reader g) here).0 in
      let shown : ℕ = number_in r.put.slots (latest_slot r.core) in
      let pair : ℕ = number_in r.put.slots (named_slot r.core r.core.read.pair) in
      subst (λ (z : WriterNotes T × ReaderNotes T). IsRegular o z.0.written (intervals z.0.times.begins z.0.times.ends)
      z.1.answers z.1.numbers (intervals z.1.times.begins z.1.times.ends)) (λ k. (sym put_is k, sym get_is k)) (record {
        source = r.timed.source;
        read_of = timed_at_any o r.put r.get r.now shown pair r.core.writer r.core.reader r.timed;
        numbered = r.timed.numbered;
      })

  pub cell_ends : CellEnds (CellRule fits rises o) (Done o)
  cell_ends now s i j v w r there here p g is_writer is_reader =
      let at_writer = there ∙ ap some is_writer in
      let at_reader = here ∙ ap some is_reader in (
        cell_regular s r.0 i j p g at_writer at_reader,
        (λ idle rest. cell_done s r.0 i j p g at_writer at_reader idle rest),
      )
