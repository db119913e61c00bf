-- The reader makes R1 and R2 and so gives its slot back; then its seat is joined into the writer's, where both lists meet.
use Rattle.std.proofs.Common.{ap, ◌∙◌, subst, sym}
use Rattle.four_slot_core.specs.declared.state.Stage.TheVariants as writer
use Rattle.four_slot_core.specs.declared.state.ReaderStage.TheVariants as reader
use Rattle.cell_four_slot.specs.Rule.{IsTimed}
use Rattle.cell_four_slot.proofs.Timing.{timed_ends}
use Rattle.cell_contract.specs.Sights.{writer_or, reader_or}
use Rattle.cell_four_slot.specs.Steps.{first_writer, first_reader, asked_by, said_with, whole_of}
use Rattle.cell_four_slot.specs.declared.notes.WriterNotes.{WriterNotes}
use Rattle.cell_four_slot.specs.declared.notes.ReaderNotes.{ReaderNotes}
use Rattle.cell_four_slot.proofs.calls.FourSlotCellCalls.finish.Goals as goal

pub announce-requires-clause-idle : goal.announce-requires-clause-idle
announce-requires-clause-idle g c =
    let get = c.args.get in
    let n : ReaderNotes g.row.T.Denot = reader_or (first_reader get.spare.value) get.seat.inner.me.0 in
    (n, (λ i. (get.known i, get.holds i)), get.idle, get.stored)

pub end-requires-clause-writer : goal.end-requires-clause-writer
end-requires-clause-writer g c =
    let put = c.args.put in
    let p : WriterNotes g.row.T.Denot = writer_or (first_writer put.spare.value) put.seat.inner.me.0 in
    (p, ap (λ m. m.0) put.known)

pub end-requires-clause-reader : goal.end-requires-clause-reader
end-requires-clause-reader g c =
    let get = c.args.get in
    let n : ReaderNotes g.row.T.Denot = reader_or (first_reader get.spare.value) get.seat.inner.me.0 in
    let a = c.announce.ensures.announced n get.known get.holds in
    (said_with (asked_by n a.0 a.2) a.4 a.3, (λ i. (a.9 i, a.10 i)))

pub returns : goal.returns
returns g c =
    let get = c.args.get in let n : ReaderNotes g.row.T.Denot = reader_or (first_reader get.spare.value) get.seat.inner.me.0 in
    let a = c.announce.ensures.announced n get.known get.holds in
    let n2 : ReaderNotes g.row.T.Denot = said_with (asked_by n a.0 a.2) a.4 a.3 in
    let p : WriterNotes g.row.T.Denot = writer_or (first_writer c.args.put.spare.value) c.args.put.seat.inner.me.0 in
    let o : g.row.T.Denot = c.args.self.table.inner.shared.key in
    let both = ap (λ m. m.0) c.end.ensures.joined ∙ (λ i. whole_of ((ap (λ m. m.0) c.args.put.known) i) (a.9 i)) in
    let h = c.close.ensures.timed p n2 both in
    let timed : IsTimed o p n2 h.0 writer.W5 reader.R2 h.1 h.2 = subst (λ z. IsTimed o p n2 h.0 z reader.R2 h.1 h.2) c.args.put.idle h.3 in
    record {
      settled = c.close.ensures.settled p n2 both;
      atomic = timed_ends o p n a.0 a.2 a.3 a.4 h.0 h.1 h.2 timed;
      ended = timed.ended_writes ∙ sym timed.begun_writes;
      known = c.close.ensures.known p n2 both;
    }
