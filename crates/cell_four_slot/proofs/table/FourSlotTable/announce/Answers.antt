-- Where `reading` has another pair, the load made R1 alone, and the store makes R2.
use Rattle.std.proofs.Common.{◌≡◌, ap, sym, ◌∙◌, refl, le_of_lt}
use Rattle.cell_contract.specs.Sights.{reader_or}
use Rattle.cell_four_slot.specs.Steps.{asked_by, word_said}
use Rattle.cell_four_slot.specs.declared.notes.ReaderNotes.{ReaderNotes}
use Rattle.cell_four_slot.proofs.table.FourSlotTable.announce.Goals as goal

pub say-requires-clause-asked : goal.say-requires-clause-asked
say-requires-clause-asked g c =
    let t = c.requires.idle in
    let a = c.ask-pair.ensures.asked t.0 (ap (λ m. m.0) t.1) (ap (λ m. m.1) t.1) in
    let h = a.5 (λ e. c.if-pair-said.false (e ∙ sym t.3)) in
    (asked_by t.0 a.0 a.2, (λ i. (h.0 i, (h.1 ∙ ap (λ m. m.1) t.1) i)), refl, a.1)

pub returns-clause-announced : goal.returns-clause-announced
returns-clause-announced g c = λ q is holds.
    let t = c.requires.idle in
    let also : t.0 ≡ q = ap (reader_or t.0) (sym (ap (λ m. m.0) t.1) ∙ is) in
    let a = c.ask-pair.ensures.asked q is holds in
    let h = a.5 (λ e. c.if-pair-said.false (e ∙ sym (t.3 ∙ ap (λ (z : ReaderNotes g.row.T.Denot). word_said z.chosen) also))) in
    let n1 : ReaderNotes g.row.T.Denot = asked_by q a.0 a.2 in
    let b = c.say.ensures.said n1 h.0 (h.1 ∙ holds) in (
      a.0,
      a.1,
      a.2,
      b.0,
      1,
      a.3,
      le_of_lt b.1,
      (λ e.
          absurd (c.if-pair-said.false (e ∙ sym (t.3 ∙ ap (λ (z : ReaderNotes g.row.T.Denot). word_said z.chosen) also)))),
      (λ _. refl),
      b.2,
      b.3,
    )
