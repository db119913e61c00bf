-- The two seats that the first one is split into stand at the opening, and each takes its slot by a load.
use Rattle.std.proofs.Common.{rules, arith, refl, ap, ◌≡◌, ◌∙◌, sym, [], ◌∷◌}
use Rattle.cell_contract.specs.Sights.{writer_or, reader_or}
use Rattle.cell_triple.specs.Steps.{first_writer, first_reader}
use Rattle.cell_contract.specs.Running.{held_slots}
use Rattle.cell_triple.specs.declared.notes.WriterNotes.{WriterNotes}
use Rattle.cell_triple.specs.declared.notes.ReaderNotes.{ReaderNotes}
use Rattle.cell_contract.specs.declared.sight.Sight.TheVariants.{Writer, Reader}
use Rattle.cell_triple.proofs.cell.TripleCell.make_from.Goals as goal

pub part-get-requires-clause-whole : goal.part-get-requires-clause-whole
part-get-requires-clause-whole g c = (first_writer c.args.first.now, first_reader c.args.first.now, (search rules))

pub take_put-requires-clause-bare : goal.take_put-requires-clause-bare
take_put-requires-clause-bare g c =
    let d : WriterNotes g.row.T.Denot = first_writer c.args.first.now in
    let is : c.part-get.new.seat.inner.me ≡ (Writer d, []) = search rules in
    (d, is, refl)

pub take_get-requires-clause-bare : goal.take_get-requires-clause-bare
take_get-requires-clause-bare g c =
    let d : ReaderNotes g.row.T.Denot = first_reader c.args.first.now in
    let is : c.part-get.result.inner.me ≡ (Reader d, []) = search rules in
    (d, is, refl)

pub invariant_of-result : goal.invariant_of-result
invariant_of-result g c =
    let d : WriterNotes g.row.T.Denot = first_writer c.args.first.now in
    let is : c.part-get.new.seat.inner.me.0 ≡ Writer d = search rules in
    let t = c.take_put.ensures.taken d is in
    let v = ap (λ m. m.0) t in
    let e : WriterNotes g.row.T.Denot = first_writer c.of-put_spare.result.value in
    record {
      known = v ∙ ap (λ z. Writer (writer_or e z)) (sym v);
      ready = (ap (λ z. (writer_or e z).has) v, ap (λ z. (writer_or e z).slot) v);
      held = ap (λ m. held_slots m.1) t;
      low = omega arith;
    }

pub invariant_of-result-2 : goal.invariant_of-result-2
invariant_of-result-2 g c =
    let d : ReaderNotes g.row.T.Denot = first_reader c.args.first.now in
    let is : c.part-get.result.inner.me.0 ≡ Reader d = search rules in
    let t = c.take_get.ensures.taken d is in
    let v = ap (λ m. m.0) t in
    let e : ReaderNotes g.row.T.Denot = first_reader c.of-get_spare.result.value in
    record {
      known = v ∙ ap (λ z. Reader (reader_or e z)) (sym v);
      ready = (ap (λ z. (reader_or e z).has) v, ap (λ z. (reader_or e z).slot) v, ap (λ z. (reader_or e z).asked) v);
      held = ap (λ m. m.1) t ∙ (λ i. (2, (reader_or e (sym v i)).at_hand.value) ∷ []);
      low = omega arith;
    }
