-- The swap puts the writer's slot in the middle and takes the old middle, which nobody holds; the list grows by the slot's record.
use Rattle.std.proofs.Common.{rules, ◌∷◌, [], sym, ap, ◌∙◌, subst, refl, le_refl}
use Rattle.cell_contract.specs.Intervals.{IsNextCall}
use Rattle.cell_contract.specs.Running.{last_or, held_slots}
use Rattle.cell_contract.specs.Sights.{writer_or}
use Rattle.cell_triple.specs.Steps.{first_writer}
use Rattle.cell_triple.specs.Lent.{placed_by}
use Rattle.cell_triple.proofs.Placed.{lies}
use Rattle.cell_triple.specs.declared.notes.WriterNotes.{WriterNotes}
use Rattle.cell_contract.specs.declared.sight.Sight.TheVariants.{Writer}
use Rattle.cell_triple.proofs.cell.TripleCell.write_placed.Goals as goal

pub publish-found-requires-clause-filled : goal.publish-found-requires-clause-filled
publish-found-requires-clause-filled g c =
    let put = c.args.put.now in
    let item : g.row.T.Denot = placed_by put in
    let p : WriterNotes g.row.T.Denot = writer_or (first_writer put.spare.value) put.seat.inner.me.0 in
    let has = lies put.seat.inner.me.1 put.slot put.spare.value put.held in (
      p,
      item,
      (λ i. (put.known i, (has ∙ (λ j. (sym put.ready.1 j, item) ∷ [])) i)),
      put.ready.0,
      c.requires.lawful.0,
      subst (λ z. g.T.Lawful.rises (last_or z p.written) item) (sym (ap (λ n. n.opening) c.requires.own)) c.requires.lawful.1,
      (search rules),
    )

pub invariant_of-put : goal.invariant_of-put
invariant_of-put g c =
    let put = c.args.put.now in
    let item : g.row.T.Denot = placed_by put in
    let d : WriterNotes g.row.T.Denot = first_writer put.spare.value in
    let p : WriterNotes g.row.T.Denot = writer_or d put.seat.inner.me.0 in
    let has = lies put.seat.inner.me.1 put.slot put.spare.value put.held in
    let t = c.publish-found.ensures.swapped p item put.known (has ∙ (λ i. (sym put.ready.1 i, item) ∷ [])) in record {
      known = t.4 ∙ ap (λ v. Writer (writer_or d v)) (sym t.4);
      ready = (ap (λ v. (writer_or d v).has) t.4 ∙ put.ready.0, ap (λ v. (writer_or d v).slot) t.4);
      held = ap held_slots t.5;
      low = t.1;
    }

pub returns-clause-timed : goal.returns-clause-timed
returns-clause-timed g c =
    let put = c.args.put.now in
    let item : g.row.T.Denot = placed_by put in
    let d : WriterNotes g.row.T.Denot = first_writer put.spare.value in
    let p : WriterNotes g.row.T.Denot = writer_or d put.seat.inner.me.0 in
    let has = lies put.seat.inner.me.1 put.slot put.spare.value put.held in
    let t = c.publish-found.ensures.swapped p item put.known (has ∙ (λ i. (sym put.ready.1 i, item) ∷ [])) in
    subst (λ z. IsNextCall p.times (writer_or d z).times) (sym t.4)
    (record { begin = t.2; end = t.2; after = t.3; forwards = le_refl t.2; begins = refl; ends = refl; clock = refl })
