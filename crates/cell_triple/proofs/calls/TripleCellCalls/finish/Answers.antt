-- The writer's notes are joined into the reader's seat, where both lists meet.
use Rattle.std.proofs.Common.{ap, sym, ◌∙◌, []}
use Rattle.cell_triple.proofs.Timing.{timed_atomic}
use Rattle.cell_contract.specs.Sights.{writer_or, reader_or}
use Rattle.cell_triple.specs.Steps.{whole_of, first_writer, first_reader}
use Rattle.cell_triple.specs.declared.notes.WriterNotes.{WriterNotes}
use Rattle.cell_triple.specs.declared.notes.ReaderNotes.{ReaderNotes}
use Rattle.cell_triple.proofs.calls.TripleCellCalls.finish.Goals as goal

pub yield_notes-notes-requires-clause-writer : goal.yield_notes-notes-requires-clause-writer
yield_notes-notes-requires-clause-writer g c =
    let put = c.args.put in
    let p : WriterNotes g.row.T.Denot = writer_or (first_writer put.spare.value) put.seat.inner.me.0 in
    (p, put.known)

pub end-requires-clause-reader : goal.end-requires-clause-reader
end-requires-clause-reader g c =
    let get = c.args.get in
    let n : ReaderNotes g.row.T.Denot = reader_or (first_reader get.spare.value) get.seat.inner.me.0 in
    (n, get.known)

pub end-requires-clause-writer : goal.end-requires-clause-writer
end-requires-clause-writer g c =
    let put = c.args.put in
    let p : WriterNotes g.row.T.Denot = writer_or (first_writer put.spare.value) put.seat.inner.me.0 in
    (p, c.yield_notes-notes.ensures.parted ∙ ap (λ v. (v, [])) put.known)

pub returns : goal.returns
returns g c =
    let put = c.args.put in
    let get = c.args.get in
    let p : WriterNotes g.row.T.Denot = writer_or (first_writer put.spare.value) put.seat.inner.me.0 in
    let n : ReaderNotes g.row.T.Denot = reader_or (first_reader get.spare.value) get.seat.inner.me.0 in
    let notes = ap (λ m. m.0) c.yield_notes-notes.ensures.parted ∙ put.known in
    let both = ap (λ m. m.0) c.end.ensures.joined ∙ (λ i. whole_of (get.known i) (notes i)) in
    let h = c.close.ensures.timed p n both in
    record {
      settled = c.close.ensures.settled p n both;
      atomic = timed_atomic c.args.self.table.inner.shared.key p n h.0 h.1;
      ended = h.1.ended_writes ∙ sym h.1.begun_writes;
      known = c.close.ensures.known p n both;
    }
