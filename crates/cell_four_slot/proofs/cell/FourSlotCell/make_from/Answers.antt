-- The first seat has made no event, so the two seats that it is split into stand at the opening state.
use Rattle.std.proofs.Common.{rules, ◌≡◌, [], sym, ap, ◌∙◌}
use Rattle.four_slot_core.specs.Events.{bit_number}
use Rattle.cell_contract.specs.Running.{last_or}
use Rattle.cell_contract.specs.Sights.{writer_or, reader_or}
use Rattle.cell_four_slot.specs.Steps.{first_writer, first_reader, slot_of_choice, word_said, bit_words}
use Rattle.cell_four_slot.specs.declared.notes.WriterNotes.{WriterNotes}
use Rattle.cell_four_slot.specs.declared.notes.ReaderNotes.{ReaderNotes}
use Rattle.cell_contract.specs.declared.sight.Sight.TheVariants.{Writer, Reader}
use Rattle.cell_four_slot.proofs.cell.FourSlotCell.make_from.Goals as goal

pub part-get-requires-clause-whole : goal.part-get-requires-clause-whole
part-get-requires-clause-whole g c = (first_writer c.args.first.now, first_reader c.args.first.now, (search rules))

pub invariant_of-result : goal.invariant_of-result
invariant_of-result g c =
    let d : WriterNotes g.row.T.Denot = first_writer c.args.first.now in
    let is : c.part-get.new.seat.inner.me ≡ (Writer d, []) = search rules in
    let e : WriterNotes g.row.T.Denot = first_writer c.of-put_spare.result.value in
    record {
      known = is ∙ (λ i. (Writer (writer_or e (sym is i).0), []));
      idle = ap (λ m. (writer_or e m.0).stage) is;
      bits = ap (λ m. bit_words (writer_or e m.0).remembered) is;
      shown = λ i. bit_number (writer_or e (sym is i).0).latest;
      newest = ap (λ m. (writer_or e m.0).finished.value) is
          ∙ sym (ap (λ m. last_or {T = g.row.T.Denot} (writer_or e m.0).opening.value (writer_or e m.0).written) is);
    }

pub invariant_of-result-2 : goal.invariant_of-result-2
invariant_of-result-2 g c =
    let d : ReaderNotes g.row.T.Denot = first_reader c.args.first.now in
    let is : c.part-get.result.inner.me ≡ (Reader d, []) = search rules in
    let e : ReaderNotes g.row.T.Denot = first_reader c.of-get_spare.result.value in
    record {
      known = ap (λ m. m.0) is ∙ (λ i. Reader (reader_or e (sym is i).0));
      idle = ap (λ m. (reader_or e m.0).stage) is;
      holds = ap (λ m. m.1) is
          ∙ (λ i. slot_of_choice {T = g.row.T.Denot} (reader_or e (sym is i).0).chosen (reader_or e (sym is i).0).at_hand.value);
      stored = λ i. word_said (reader_or e (sym is i).0).chosen;
    }
