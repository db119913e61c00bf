-- The swap of the filled slot is the whole write: one write more, and each other cell as before.
use Rattle.std.proofs.Common.{◌≡◌, ◌+◌, ◌*◌, ◌-◌, ◌%◌, ◌<◌, ℕ, List, [], ◌∷◌, ◌++◌, set, length, sym, ap, ◌∙◌, subst, refl, arith}
use Rattle.cell_contract.specs.Running.{last_or, held_slots}
use Rattle.cell_triple.specs.declared.notes.WriterNotes.{WriterNotes}
use Rattle.family_table.specs.declared.notes.View.TheVariants.{Has}
use Rattle.family_triple.specs.Places.{among, slot_at}
use Rattle.family_table.specs.Seated.{known_by}
use Rattle.family_triple.proofs.Going.{publish_may, row_at, row_long, row_notes, row_slot, row_written, wrote}
use Rattle.family_triple.proofs.Looking.{word_is}
use Rattle.family_triple.proofs.Rounds.{replaced, behind_long, turned_front, turned_back}
use Rattle.family_triple.proofs.SoFar.{seat_so_far}
use Rattle.family_triple.proofs.Turns.{split_at}
use Rattle.family_triple.proofs.family.TripleFamilyFamily.write_from.Goals as goal

pub fill-requires-clause-held : goal.fill-requires-clause-held
fill-requires-clause-held g c =
    let f = c.args.self.now in
    let s = c.args.seat.now in
    let own = c.requires.own in
    let other = c.requires.other in
    let item : g.row.T.Denot = c.args.item.now in
    let cell : ℕ = c.place-cell.result in
    let at = c.place-cell.ensures in
    let row = row_at f s own c.args.to other in
    let p : WriterNotes g.row.T.Denot = row.notes in
    let cut = split_at s.seat.inner.me.1 (among s.who c.args.to) (slot_at cell p.slot, row.record_there)
    (row_slot f s own c.args.to other cell at) in
    let front : List (ℕ × g.row.T.Denot) = cut.0 in
    let back : List (ℕ × g.row.T.Denot) = cut.1 in
    let first = c.turn_by.ensures.turned front ((slot_at cell p.slot, row.record_there) ∷ back) cut.2
    (cut.3 ∙ sym c.among-before.ensures) in
    let place : c.slot_place.result ≡ slot_at cell p.slot = c.slot_place.ensures ∙ ap (slot_at cell) (sym row.numbered) in
    let there : c.turn_by.new.seat.inner.me.1 ≡ (c.slot_place.result, row.record_there) ∷ (back ++ front) =
    ap (λ z. z.1) first ∙ ap (λ z. (z, row.record_there) ∷ (back ++ front)) (sym place) in
    (row.record_there, back ++ front, there)

pub publish-middle-requires-clause-filled : goal.publish-middle-requires-clause-filled
publish-middle-requires-clause-filled g c =
    let f = c.args.self.now in
    let s = c.args.seat.now in
    let own = c.requires.own in
    let other = c.requires.other in
    let item : g.row.T.Denot = c.args.item.now in
    let cell : ℕ = c.place-cell.result in
    let at = c.place-cell.ensures in
    let row = row_at f s own c.args.to other in
    let p : WriterNotes g.row.T.Denot = row.notes in
    let cut = split_at s.seat.inner.me.1 (among s.who c.args.to) (slot_at cell p.slot, row.record_there)
    (row_slot f s own c.args.to other cell at) in
    let front : List (ℕ × g.row.T.Denot) = cut.0 in
    let back : List (ℕ × g.row.T.Denot) = cut.1 in
    let first = c.turn_by.ensures.turned front ((slot_at cell p.slot, row.record_there) ∷ back) cut.2
    (cut.3 ∙ sym c.among-before.ensures) in
    let place : c.slot_place.result ≡ slot_at cell p.slot = c.slot_place.ensures ∙ ap (slot_at cell) (sym row.numbered) in
    let there : c.turn_by.new.seat.inner.me.1 ≡ (c.slot_place.result, row.record_there) ∷ (back ++ front) =
    ap (λ z. z.1) first ∙ ap (λ z. (z, row.record_there) ∷ (back ++ front)) (sym place) in
    let filled = c.fill.ensures.filled row.record_there (back ++ front) there in
    let slots : c.fill.new.seat.inner.me.1 ≡ (slot_at cell p.slot, item) ∷ (back ++ front) =
    ap (λ z. z.1) filled ∙ ap (λ z. (z, item) ∷ (back ++ front)) place in
    let one : c.fill.new.seat.inner.me.0 ≡ Has (known_by s ∷ []) = ap (λ z. z.0) filled ∙ (ap (λ z. z.0) first ∙ own.one) in
    let turned = turned_front s.seat.inner.me.1 front back (slot_at cell p.slot) row.record_there item
    (known_by s).held c.fill.new.seat.inner.me.1
    cut.2 own.rest.held slots in (
      known_by s,
      p,
      item,
      back ++ front,
      record {
        process = record { one = one; has = row_long f s own c.args.to other cell at; held = turned };
        notes = row_notes f s own c.args.to other cell at;
      },
      slots,
      row.took,
      c.requires.lawful.0,
      subst (λ (z : g.row.T.Denot × List g.row.T.Denot). g.T.Lawful.rises (last_or z.0 z.1) item)
          (λ i. (sym (row.opened ∙ own.opening) i, row_written f s own c.args.to other i)) c.requires.lawful.1,
      ap (λ z. z + 4) (sym row.numbered),
      publish_may f s own c.args.to other g.T.Planned.plan cell item at c.requires.plan,
    )

pub returns : goal.returns
returns g c =
    let f = c.args.self.now in
    let s = c.args.seat.now in
    let own = c.requires.own in
    let other = c.requires.other in
    let item : g.row.T.Denot = c.args.item.now in
    let cell : ℕ = c.place-cell.result in
    let at = c.place-cell.ensures in
    let row = row_at f s own c.args.to other in
    let p : WriterNotes g.row.T.Denot = row.notes in
    let cut = split_at s.seat.inner.me.1 (among s.who c.args.to) (slot_at cell p.slot, row.record_there)
    (row_slot f s own c.args.to other cell at) in
    let front : List (ℕ × g.row.T.Denot) = cut.0 in
    let back : List (ℕ × g.row.T.Denot) = cut.1 in
    let first = c.turn_by.ensures.turned front ((slot_at cell p.slot, row.record_there) ∷ back) cut.2
    (cut.3 ∙ sym c.among-before.ensures) in
    let place : c.slot_place.result ≡ slot_at cell p.slot = c.slot_place.ensures ∙ ap (slot_at cell) (sym row.numbered) in
    let there : c.turn_by.new.seat.inner.me.1 ≡ (c.slot_place.result, row.record_there) ∷ (back ++ front) =
    ap (λ z. z.1) first ∙ ap (λ z. (z, row.record_there) ∷ (back ++ front)) (sym place) in
    let filled = c.fill.ensures.filled row.record_there (back ++ front) there in
    let slots : c.fill.new.seat.inner.me.1 ≡ (slot_at cell p.slot, item) ∷ (back ++ front) =
    ap (λ z. z.1) filled ∙ ap (λ z. (z, item) ∷ (back ++ front)) place in
    let one : c.fill.new.seat.inner.me.0 ≡ Has (known_by s ∷ []) = ap (λ z. z.0) filled ∙ (ap (λ z. z.0) first ∙ own.one) in
    let slot : ℕ = c.publish-middle.result % 4 in
    let e = c.publish-middle.ensures.swapped cell (known_by s) p item (back ++ front) (word_is cell) one
    (row_notes f s own c.args.to other cell at)
    slots in
    let y : ℕ × g.row.T.Denot = (slot_at cell slot, e.0) in
    let few : c.args.to < 16 = omega (arith, other.0, f.table.rows.some.1) in
    let behind : length (y ∷ back) ≡ 2 * (s.processes - 1) - c.among-before.result =
    behind_long s.seat.inner.me.1 front back (slot_at cell p.slot, row.record_there) y c.among-before.result (2 * (s.processes - 1)) cut.2
    (cut.3 ∙ sym c.among-before.ensures) own.rest.many in
    let last = c.turn_by-2.ensures.turned (y ∷ back) front e.4.2 behind in
    let is : c.turn_by-2.new.seat.inner.me.1 ≡ front ++ y ∷ back = ap (λ z. z.1) last in
    let same : c.turn_by-2.new.seat.inner.table_id ≡ s.seat.inner.table_id =
    c.turn_by-2.ensures.own ∙ (c.publish-middle.ensures.own ∙ (c.fill.ensures.own ∙ c.turn_by.ensures.own)) in
    let h = wrote f s own c.args.to other cell at few item e.0 slot e.1 (held_slots (y ∷ (back ++ front)))
    (record s { seat = c.turn_by-2.new.seat; stored = record s.stored { fills = set s.stored.fills c.args.to slot } }) e.4.0 e.2
    (ap (λ z. z.0) last ∙ e.4.1)
    (replaced s.seat.inner.me.1 c.turn_by-2.new.seat.inner.me.1 front back (slot_at cell p.slot, row.record_there) y
    (among s.who c.args.to) cut.2 is cut.3)
    (turned_back front back y c.turn_by-2.new.seat.inner.me.1 is) same refl refl refl refl refl in
    record {
      own = h.own;
      access = h.access;
      written = h.written;
      others = h.others;
      tags = h.tags;
      so_far = seat_so_far g.T.Planned.plan f _ h.own.0
          (c.publish-middle.ensures.shown _ (sym (ap (λ z. z.0) last) ∙ h.own.0.one));
    }
