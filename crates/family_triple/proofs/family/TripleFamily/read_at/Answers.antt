-- The step that decides the read leaves the answer in the seat's first slot: one answer more, and each other cell as before.
use Rattle.std.proofs.Common.{◌≡◌, ◌+◌, ◌*◌, ◌-◌, ◌<◌, ℕ, List, ◌∷◌, ◌++◌, set, length, sym, ap, ◌∙◌, refl, arith}
use Rattle.cell_triple.specs.declared.notes.ReaderNotes.{ReaderNotes}
use Rattle.family_triple.specs.Places.{among, slot_at}
use Rattle.family_table.specs.Seated.{known_by}
use Rattle.family_triple.specs.Tables.{HasReader}
use Rattle.cell_contract.specs.Running.{last_or}
use Rattle.family_triple.specs.Seated.{opening_of, reads_of}
use Rattle.family_triple.proofs.Going.{column_at, column_inside, column_last, column_long, column_notes, column_slot}
use Rattle.family_triple.proofs.Going.{decide_may, is_answer, has_read}
use Rattle.family_triple.proofs.Looking.{is_shown}
use Rattle.family_triple.proofs.Rounds.{few_cells, replaced, behind_long, turned_front, turned_back}
use Rattle.family_triple.proofs.SoFar.{seat_so_far}
use Rattle.family_triple.proofs.Turns.{split_at}
use Rattle.family_triple.proofs.family.TripleFamily.read_at.Goals as goal

pub newest-slot-requires-clause-idle : goal.newest-slot-requires-clause-idle
newest-slot-requires-clause-idle g c =
    let f = c.args.self.now in
    let s = c.args.seat.now in
    let own = c.requires.own in
    let other = c.requires.other in
    let cell : ℕ = c.args.cell in
    let at = c.requires.at in
    let column = column_at f s own c.args.from other in
    let q : ReaderNotes g.row.T.Denot = column.notes in
    let place : ℕ = (s.processes - 1) + among s.who c.args.from in
    let before : ℕ = (s.processes - 1) + c.among.result in
    let cut = split_at s.seat.inner.me.1 place (slot_at cell q.slot, q.at_hand.value) (column_slot f s own c.args.from other cell at) in
    let front : List (ℕ × g.row.T.Denot) = cut.0 in
    let back : List (ℕ × g.row.T.Denot) = cut.1 in
    let turns : length front ≡ before = cut.3 ∙ ap (λ z. (s.processes - 1) + z) (sym c.among.ensures) in
    let first = c.turn_by.ensures.turned front ((slot_at cell q.slot, q.at_hand.value) ∷ back) cut.2 turns in
    let slots : c.turn_by.new.seat.inner.me.1 ≡ (slot_at cell q.slot, q.at_hand.value) ∷ (back ++ front) = ap (λ z. z.1) first in
    let reader : HasReader c.turn_by.new.seat.inner.me cell (known_by s) q = record {
      process = record {
        one = ap (λ z. z.0) first ∙ own.one;
        has = column_long f s own c.args.from other cell at;
        held = turned_front s.seat.inner.me.1 front back (slot_at cell q.slot) q.at_hand.value q.at_hand.value (known_by s).held
            c.turn_by.new.seat.inner.me.1 cut.2 own.rest.held slots;
      };
      notes = column_notes f s own c.args.from other cell at;
    } in (
      known_by s,
      q,
      back ++ front,
      reader,
      slots,
      column.took,
      column.free,
      column.low,
      sym column.numbered,
      decide_may f s own c.args.from other g.T.Planned.plan cell at c.requires.plan,
    )

pub slot_place-requires : goal.slot_place-requires
slot_place-requires g c =
    let f = c.args.self.now in
    let s = c.args.seat.now in
    let own = c.requires.own in
    let other = c.requires.other in
    let cell : ℕ = c.args.cell in
    let at = c.requires.at in
    let column = column_at f s own c.args.from other in
    let q : ReaderNotes g.row.T.Denot = column.notes in
    let place : ℕ = (s.processes - 1) + among s.who c.args.from in
    let before : ℕ = (s.processes - 1) + c.among.result in
    let cut = split_at s.seat.inner.me.1 place (slot_at cell q.slot, q.at_hand.value) (column_slot f s own c.args.from other cell at) in
    let front : List (ℕ × g.row.T.Denot) = cut.0 in
    let back : List (ℕ × g.row.T.Denot) = cut.1 in
    let turns : length front ≡ before = cut.3 ∙ ap (λ z. (s.processes - 1) + z) (sym c.among.ensures) in
    let first = c.turn_by.ensures.turned front ((slot_at cell q.slot, q.at_hand.value) ∷ back) cut.2 turns in
    let slots : c.turn_by.new.seat.inner.me.1 ≡ (slot_at cell q.slot, q.at_hand.value) ∷ (back ++ front) = ap (λ z. z.1) first in
    let reader : HasReader c.turn_by.new.seat.inner.me cell (known_by s) q = record {
      process = record {
        one = ap (λ z. z.0) first ∙ own.one;
        has = column_long f s own c.args.from other cell at;
        held = turned_front s.seat.inner.me.1 front back (slot_at cell q.slot) q.at_hand.value q.at_hand.value (known_by s).held
            c.turn_by.new.seat.inner.me.1 cut.2 own.rest.held slots;
      };
      notes = column_notes f s own c.args.from other cell at;
    } in
    let looked = c.newest-slot.ensures.looked (known_by s) q (back ++ front) reader slots column.low (sym column.numbered) in (
      few_cells f.table.rows.inner.shared.key.processes cell f.table.rows.some.1 (column_inside f s own c.args.from other cell at),
      looked.took.2,
    )

pub show_where-requires-clause-held : goal.show_where-requires-clause-held
show_where-requires-clause-held g c =
    let f = c.args.self.now in
    let s = c.args.seat.now in
    let own = c.requires.own in
    let other = c.requires.other in
    let cell : ℕ = c.args.cell in
    let at = c.requires.at in
    let column = column_at f s own c.args.from other in
    let q : ReaderNotes g.row.T.Denot = column.notes in
    let place : ℕ = (s.processes - 1) + among s.who c.args.from in
    let before : ℕ = (s.processes - 1) + c.among.result in
    let cut = split_at s.seat.inner.me.1 place (slot_at cell q.slot, q.at_hand.value) (column_slot f s own c.args.from other cell at) in
    let front : List (ℕ × g.row.T.Denot) = cut.0 in
    let back : List (ℕ × g.row.T.Denot) = cut.1 in
    let turns : length front ≡ before = cut.3 ∙ ap (λ z. (s.processes - 1) + z) (sym c.among.ensures) in
    let first = c.turn_by.ensures.turned front ((slot_at cell q.slot, q.at_hand.value) ∷ back) cut.2 turns in
    let slots : c.turn_by.new.seat.inner.me.1 ≡ (slot_at cell q.slot, q.at_hand.value) ∷ (back ++ front) = ap (λ z. z.1) first in
    let reader : HasReader c.turn_by.new.seat.inner.me cell (known_by s) q = record {
      process = record {
        one = ap (λ z. z.0) first ∙ own.one;
        has = column_long f s own c.args.from other cell at;
        held = turned_front s.seat.inner.me.1 front back (slot_at cell q.slot) q.at_hand.value q.at_hand.value (known_by s).held
            c.turn_by.new.seat.inner.me.1 cut.2 own.rest.held slots;
      };
      notes = column_notes f s own c.args.from other cell at;
    } in
    let looked = c.newest-slot.ensures.looked (known_by s) q (back ++ front) reader slots column.low (sym column.numbered) in
    let there : c.newest-slot.new.seat.inner.me.1 ≡ (c.slot_place.result, looked.answer) ∷ (back ++ front) =
    looked.slots ∙ ap (λ z. (z, looked.answer) ∷ (back ++ front)) (sym c.slot_place.ensures) in
    (looked.answer, back ++ front, there)

pub returns-clause-read : goal.returns-clause-read
returns-clause-read g c =
    let f = c.args.self.now in
    let s = c.args.seat.now in
    let own = c.requires.own in
    let other = c.requires.other in
    let cell : ℕ = c.args.cell in
    let at = c.requires.at in
    let column = column_at f s own c.args.from other in
    let q : ReaderNotes g.row.T.Denot = column.notes in
    let place : ℕ = (s.processes - 1) + among s.who c.args.from in
    let before : ℕ = (s.processes - 1) + c.among.result in
    let cut = split_at s.seat.inner.me.1 place (slot_at cell q.slot, q.at_hand.value) (column_slot f s own c.args.from other cell at) in
    let front : List (ℕ × g.row.T.Denot) = cut.0 in
    let back : List (ℕ × g.row.T.Denot) = cut.1 in
    let turns : length front ≡ before = cut.3 ∙ ap (λ z. (s.processes - 1) + z) (sym c.among.ensures) in
    let first = c.turn_by.ensures.turned front ((slot_at cell q.slot, q.at_hand.value) ∷ back) cut.2 turns in
    let slots : c.turn_by.new.seat.inner.me.1 ≡ (slot_at cell q.slot, q.at_hand.value) ∷ (back ++ front) = ap (λ z. z.1) first in
    let reader : HasReader c.turn_by.new.seat.inner.me cell (known_by s) q = record {
      process = record {
        one = ap (λ z. z.0) first ∙ own.one;
        has = column_long f s own c.args.from other cell at;
        held = turned_front s.seat.inner.me.1 front back (slot_at cell q.slot) q.at_hand.value q.at_hand.value (known_by s).held
            c.turn_by.new.seat.inner.me.1 cut.2 own.rest.held slots;
      };
      notes = column_notes f s own c.args.from other cell at;
    } in
    let looked = c.newest-slot.ensures.looked (known_by s) q (back ++ front) reader slots column.low (sym column.numbered) in
    let answer = is_answer f s own c.args.from other cell at g.T.Lawful.fits g.T.Lawful.rises looked.answer looked.may in
    let there : c.newest-slot.new.seat.inner.me.1 ≡ (c.slot_place.result, looked.answer) ∷ (back ++ front) =
    looked.slots ∙ ap (λ z. (z, looked.answer) ∷ (back ++ front)) (sym c.slot_place.ensures) in
    let slot : ℕ = c.newest-slot.result.0 in
    let y : ℕ × g.row.T.Denot = (slot_at cell slot, looked.answer) in
    let few : c.args.from < 16 = omega (arith, other.0, f.table.rows.some.1) in
    let behind : length (y ∷ back) ≡ 2 * (s.processes - 1) - before =
    behind_long s.seat.inner.me.1 front back (slot_at cell q.slot, q.at_hand.value) y before
    (2 * (s.processes - 1)) cut.2 turns own.rest.many in
    let last = c.turn_by-2.ensures.turned (y ∷ back) front (ap (λ z. z.1) c.show_where.ensures.same ∙ looked.slots) behind in
    let is : c.turn_by-2.new.seat.inner.me.1 ≡ front ++ y ∷ back = ap (λ z. z.1) last in
    let same : c.turn_by-2.new.seat.inner.table_id ≡ s.seat.inner.table_id =
    c.turn_by-2.ensures.own ∙ (c.show_where.ensures.own ∙ (c.newest-slot.ensures.own ∙ c.turn_by.ensures.own)) in
    let h = has_read f s own c.args.from other cell at few g.T.Lawful.fits g.T.Lawful.rises
    (back ++ front) c.newest-slot.new.seat.inner.me slot c.newest-slot.result.1
    (record s { seat = c.turn_by-2.new.seat; stored = record s.stored { reads = set s.stored.reads c.args.from slot } }) looked
    (ap (λ z. z.0) last ∙ ap (λ z. z.0) c.show_where.ensures.same)
    (replaced s.seat.inner.me.1 c.turn_by-2.new.seat.inner.me.1 front back (slot_at cell q.slot, q.at_hand.value) y place cut.2 is cut.3)
    (turned_back front back y c.turn_by-2.new.seat.inner.me.1 is) same refl refl refl refl refl in
    record {
      own = h.own;
      access = h.access;
      answer = looked.answer;
      read = h.answer;
      may = answer;
      saw = is_shown g.L.Sees.sees c.args.again c.newest-slot.result.1 c.args.seen.now c.show_where.new.seen looked.answer
          (last_or (opening_of f) (reads_of s c.args.from).answers)
          (λ there_is. c.show_where.ensures.shown (c.shows.ensures ∙ there_is) looked.answer (back ++ front) there)
          (λ none. c.show_where.ensures.unshown (c.shows.ensures ∙ none))
          (λ unmarked. looked.again unmarked ∙ column_last f s own c.args.from other cell at);
      others = h.others;
      tags = h.tags;
    }

pub returns-clause-so_far : goal.returns-clause-so_far
returns-clause-so_far g c =
    let own = (returns-clause-read g c).own.0 in
    let view = ap (λ z. z.0) c.show_where.ensures.same in
    seat_so_far g.T.Planned.plan c.args.self.now _ own
    (c.newest-slot.ensures.shown _ (sym view ∙ (sym c.turn_by-2.ensures.view ∙ own.one)))
