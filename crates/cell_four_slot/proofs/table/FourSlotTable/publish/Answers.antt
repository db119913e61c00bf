-- Where `latest` has the pair, the first store made W4 and W5; where it has the other, W4 alone, and the second store makes W5.
use Rattle.std.proofs.Common.{◌≡◌, ap, sym, ◌∙◌, refl, le_of_lt, le_refl}
use Rattle.four_slot_core.specs.Events.{bit_number}
use Rattle.cell_contract.specs.Sights.{writer_or}
use Rattle.cell_four_slot.specs.Steps.{stored_by}
use Rattle.cell_four_slot.specs.declared.notes.WriterNotes.{WriterNotes}
use Rattle.cell_four_slot.proofs.table.FourSlotTable.publish.Goals as goal

pub word_of-word-requires : goal.word_of-word-requires
word_of-word-requires g c = let t = c.requires.filled in (t.0.slot.pair, t.3)

pub store-requires-clause-filled : goal.store-requires-clause-filled
store-requires-clause-filled g c =
    let t = c.requires.filled in (t.0, t.1, t.2, c.word_of-word.ensures t.0.slot.pair t.3, t.4)

pub finish-requires-clause-stored : goal.finish-requires-clause-stored
finish-requires-clause-stored g c =
    let t = c.requires.filled in
    let a = c.store.ensures.stored t.0 (ap (λ m. m.0) t.1) (ap (λ m. m.1) t.1) in
    (stored_by t.0 a.0, a.5 (λ e. c.if-pair-shown.false (t.3 ∙ (e ∙ sym t.5))), refl, t.3)

pub returns-clause-published : goal.returns-clause-published
returns-clause-published g c = λ q is holds.
    let t = c.requires.filled in
    let also : t.0 ≡ q = ap (writer_or t.0) (sym (ap (λ m. m.0) t.1) ∙ is) in
    let a = c.store.ensures.stored q is holds in
    let pair = t.3 ∙ ap (λ (z : WriterNotes g.row.T.Denot). bit_number z.slot.pair) also in
    let shown = t.5 ∙ ap (λ (z : WriterNotes g.row.T.Denot). bit_number z.latest) also in
    let h = a.5 (λ e. c.if-pair-shown.false (pair ∙ (e ∙ sym shown))) in
    let q1 : WriterNotes g.row.T.Denot = stored_by q a.0 in
    let b = c.finish.ensures.finished q1 h in
    (a.0, b.0, 1, a.1, le_of_lt b.1, (λ e. absurd (c.if-pair-shown.false (pair ∙ (e ∙ sym shown)))), (λ _. refl), b.2, b.3 ∙ a.2)

pub returns-then-pair-shown-clause-published : goal.returns-then-pair-shown-clause-published
returns-then-pair-shown-clause-published g c = λ q is holds.
    let t = c.requires.filled in
    let also : t.0 ≡ q = ap (writer_or t.0) (sym (ap (λ m. m.0) t.1) ∙ is) in
    let a = c.store.ensures.stored q is holds in
    let pair = t.3 ∙ ap (λ (z : WriterNotes g.row.T.Denot). bit_number z.slot.pair) also in
    let shown = t.5 ∙ ap (λ (z : WriterNotes g.row.T.Denot). bit_number z.latest) also in
    let same : bit_number q.slot.pair ≡ bit_number q.latest = sym pair ∙ (c.if-pair-shown.true ∙ shown) in
    (a.0, a.0, 0, a.1, le_refl a.0, (λ _. refl), (λ ne. absurd (ne same)), a.4 same, a.2)
