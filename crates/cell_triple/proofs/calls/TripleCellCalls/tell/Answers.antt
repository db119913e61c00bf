-- The seat that is parted off names the last record of the writer's list.
use Rattle.std.proofs.Common.{◌≡◌, ap, sym, ◌∙◌, []}
use Rattle.cell_contract.specs.Running.{last_or, snap}
use Rattle.cell_contract.specs.Intervals.{dated}
use Rattle.cell_contract.specs.Sights.{receipt_or, writer_or}
use Rattle.cell_triple.specs.Steps.{receipt_for, told_by, first_writer}
use Rattle.cell_triple.specs.declared.notes.WriterNotes.{WriterNotes}
use Rattle.cell_contract.specs.declared.sight.Sight.TheVariants.{Told}
use Rattle.cell_triple.proofs.calls.TripleCellCalls.tell.Goals as goal

pub tell-seat-requires-clause-writer : goal.tell-seat-requires-clause-writer
tell-seat-requires-clause-writer g c =
    let put = c.args.put.now in
    let p : WriterNotes g.row.T.Denot = writer_or (first_writer put.spare.value) put.seat.inner.me.0 in
    (p, put.known)

pub invariant_of-result : goal.invariant_of-result
invariant_of-result g c =
    let put = c.args.put.now in
    let p : WriterNotes g.row.T.Denot = writer_or (first_writer put.spare.value) put.seat.inner.me.0 in
    let e : c.tell-seat.result.inner.me ≡ (Told (snap (told_by p)), []) =
    c.tell-seat.ensures.parted.1 ∙ (λ i. (receipt_for (put.known i), [])) in
    record { known = e ∙ (λ i. (Told (snap (receipt_or (dated c.again-spare.result.value) (sym e i).0)), [])) }

pub returns-clause-named : goal.returns-clause-named
returns-clause-named g c =
    let put = c.args.put.now in
    let p : WriterNotes g.row.T.Denot = writer_or (first_writer put.spare.value) put.seat.inner.me.0 in
    let e : c.tell-seat.result.inner.me ≡ (Told (snap (told_by p)), []) =
    c.tell-seat.ensures.parted.1 ∙ (λ i. (receipt_for (put.known i), [])) in
    ap (λ m. (receipt_or (dated c.again-spare.result.value) m.0).item) e
    ∙ ap (λ n. last_or {T = g.row.T.Denot} n.opening p.written) c.requires

pub returns-clause-timed : goal.returns-clause-timed
returns-clause-timed g c =
    let put = c.args.put.now in
    let d : WriterNotes g.row.T.Denot = first_writer put.spare.value in
    let p : WriterNotes g.row.T.Denot = writer_or d put.seat.inner.me.0 in
    let e : c.tell-seat.result.inner.me ≡ (Told (snap (told_by p)), []) =
    c.tell-seat.ensures.parted.1 ∙ (λ i. (receipt_for (put.known i), [])) in
    (ap (λ m. (writer_or d m.0).times) c.tell-seat.ensures.parted.0, ap (λ m. (receipt_or (dated c.again-spare.result.value) m.0).time) e)

pub returns-clause-tells : goal.returns-clause-tells
returns-clause-tells g c =
    let put = c.args.put.now in
    let p : WriterNotes g.row.T.Denot = writer_or (first_writer put.spare.value) put.seat.inner.me.0 in
    let e : c.tell-seat.result.inner.me ≡ (Told (snap (told_by p)), []) =
    c.tell-seat.ensures.parted.1 ∙ (λ i. (receipt_for (put.known i), [])) in
    ap (λ m. (receipt_or (dated c.again-spare.result.value) m.0).writes) e
