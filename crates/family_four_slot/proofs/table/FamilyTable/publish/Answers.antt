-- Where `latest` has the pair the first store made W4 and W5; where it has the other, W4 alone, and the second store makes W5.
use Rattle.std.proofs.Common.{◌≡◌, ◌<◌, ℕ, List, length, sym, ap, ◌∙◌, subst, refl}
use Rattle.four_slot_core.specs.Events.{bit_number}
use Rattle.cell_contract.specs.Running.{held_slots}
use Rattle.cell_contract.specs.declared.sight.Sight.TheVariants.{Spent, Writer}
use Rattle.cell_four_slot.specs.Steps.{FourSlotSight, stored_by, finished_with}
use Rattle.cell_four_slot.specs.declared.notes.WriterNotes.{WriterNotes}
use Rattle.family_table.specs.declared.notes.Process.{Process}
use Rattle.family_table.specs.Family.{of_cell}
use Rattle.family_four_slot.specs.Steps.{After, has_stored}
use Rattle.family_four_slot.proofs.Going.{first_word, pair_low, pair_word, writer_after}
use Rattle.family_four_slot.proofs.Told.{has_one, writes_one}
use Rattle.family_four_slot.proofs.table.FamilyTable.publish.Goals as goal

pub store-requires-clause-filled : goal.store-requires-clause-filled
store-requires-clause-filled g c = let t = c.requires.filled in (t.0, t.1, t.2, t.3, t.4, t.5, t.6, t.7, t.9)

pub finish-requires-clause-stored : goal.finish-requires-clause-stored
finish-requires-clause-stored g c =
    let t = c.requires.filled in
    let cell : ℕ = c.args.cell in
    let p : WriterNotes g.row.T.Denot = t.1 in
    let a = c.store.ensures.stored cell _ t.0 p t.2 (pair_low p.slot.pair)
    (pair_word cell c.args.pair p.slot.pair t.6) t.3.process.one t.3.notes t.4 in
    let h = a.2 (λ e. c.if-pair-shown.false (t.6 ∙ (e ∙ sym t.8))) in
    let q1 : WriterNotes g.row.T.Denot = stored_by p a.0 in
    let stored = writer_after t.0 cell a.0 q1 t.2 c.store.new.seat.inner.me t.3.process.has h in
    (_, q1, stored, refl, t.6, t.9.1 a.0 (held_slots t.2) h.0)

pub returns-clause-published : goal.returns-clause-published
returns-clause-published g c = λ v q cs one notes held.
    let t = c.requires.filled in
    let cell : ℕ = c.args.cell in
    let same : t.0 ≡ v = has_one t.0 v (sym t.3.process.one ∙ one) in
    let also : t.1 ≡ q = writes_one t.1 q
    (sym t.3.notes ∙ (ap (λ (z : Process (FourSlotSight g.row.T.Denot)). of_cell Spent cell z.parts) same ∙ notes)) in
    let pair : c.args.pair ≡ bit_number q.slot.pair = t.6 ∙ ap (λ (z : WriterNotes g.row.T.Denot). bit_number z.slot.pair) also in
    let shown : c.args.shown.now ≡ bit_number q.latest = t.8 ∙ ap (λ (z : WriterNotes g.row.T.Denot). bit_number z.latest) also in
    let has : cell < length v.parts = subst (λ (z : Process (FourSlotSight g.row.T.Denot)). cell < length z.parts) same t.3.process.has in
    let a = c.store.ensures.stored cell _ v q cs (pair_low q.slot.pair) (pair_word cell c.args.pair q.slot.pair pair) one notes held in
    let h = a.2 (λ e. c.if-pair-shown.false (pair ∙ (e ∙ sym shown))) in
    let q1 : WriterNotes g.row.T.Denot = stored_by q a.0 in
    let w1 = writer_after v cell a.0 q1 cs c.store.new.seat.inner.me has h in
    let b = c.finish.ensures.finished cell _ q1 (first_word cell) h.1 w1.notes in
    let v1 : Process (FourSlotSight g.row.T.Denot) = has_stored v cell q a.0 cs in
    let done = subst (λ (zs : List (ℕ × g.row.T.Denot)). After v1 cell
    (Writer (finished_with q1 1 b.0)) b.0 zs c.finish.new.seat.inner.me) h.2 b.2 in
    (a.0, b.0, 1, (λ e. absurd (c.if-pair-shown.false (pair ∙ (e ∙ sym shown)))), (λ _. refl), a.1, done)

pub returns-then-pair-shown-clause-published : goal.returns-then-pair-shown-clause-published
returns-then-pair-shown-clause-published g c = λ v q cs one notes held.
    let t = c.requires.filled in
    let cell : ℕ = c.args.cell in
    let same : t.0 ≡ v = has_one t.0 v (sym t.3.process.one ∙ one) in
    let also : t.1 ≡ q = writes_one t.1 q
    (sym t.3.notes ∙ (ap (λ (z : Process (FourSlotSight g.row.T.Denot)). of_cell Spent cell z.parts) same ∙ notes)) in
    let pair : c.args.pair ≡ bit_number q.slot.pair = t.6 ∙ ap (λ (z : WriterNotes g.row.T.Denot). bit_number z.slot.pair) also in
    let shown : c.args.shown.now ≡ bit_number q.latest = t.8 ∙ ap (λ (z : WriterNotes g.row.T.Denot). bit_number z.latest) also in
    let equal : bit_number q.slot.pair ≡ bit_number q.latest = sym pair ∙ (c.if-pair-shown.true ∙ shown) in
    let a = c.store.ensures.stored cell _ v q cs (pair_low q.slot.pair) (pair_word cell c.args.pair q.slot.pair pair) one notes held in
    let b = a.3 equal in
    (a.0, b.0, 0, (λ _. refl), (λ ne. absurd (ne equal)), a.1, b.1)

pub store-requires-clause-opening : goal.store-requires-clause-opening
store-requires-clause-opening g c = c.requires.opening

pub finish-requires-clause-opening : goal.finish-requires-clause-opening
finish-requires-clause-opening g c = c.requires.opening

pub returns-clause-shown : goal.returns-clause-shown
returns-clause-shown g c = c.finish.ensures.shown

pub returns-then-pair-shown-clause-shown : goal.returns-then-pair-shown-clause-shown
returns-then-pair-shown-clause-shown g c = c.store.ensures.shown
