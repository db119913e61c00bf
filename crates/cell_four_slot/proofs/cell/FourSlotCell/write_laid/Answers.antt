-- Each step tells the notes what it did: after the fifth event the record is the last one written, and both bits are remembered.
use Rattle.std.proofs.Common.{rules, arith, ◌≡◌, ◌+◌, ◌∷◌, [], not, Bool, sym, ap, ◌∙◌, subst, refl, ◌≤◌, le_trans, le_of_lt}
use Rattle.four_slot_core.specs.Events.{side, bit_number, slot_number}
use Rattle.cell_contract.specs.Running.{last_or, held_slots, snap}
use Rattle.cell_contract.specs.Intervals.{IsNextCall}
use Rattle.cell_contract.specs.Sights.{writer_or}
use Rattle.cell_four_slot.specs.Steps.{first_writer, begun_with, stored_by, finished_with, bit_words}
use Rattle.cell_four_slot.specs.declared.notes.WriterNotes.{WriterNotes}
use Rattle.cell_contract.specs.declared.sight.Sight.TheVariants.{Writer}
use Rattle.four_slot_core.specs.declared.event.WriteEvent.TheVariants.{W1, W2, W3, W4, W5}
use Rattle.four_slot_core.specs.declared.state.Stage.TheVariants as stage
use Rattle.cell_contract.proofs.ListLaws.{last_snoc}
use Rattle.cell_four_slot.proofs.Events.{write_joined, at_most_one}
use Rattle.cell_four_slot.proofs.cell.FourSlotCell.write_laid.Goals as goal

pub begin-reading-requires-clause-idle : goal.begin-reading-requires-clause-idle
begin-reading-requires-clause-idle g c =
    let item : g.row.T.Denot = g.L.Lays.whole c.args.parts.now in
    let put = c.args.put.now in
    let p : WriterNotes g.row.T.Denot = writer_or (first_writer put.spare.value) put.seat.inner.me.0 in
    let named = c.name-named.ensures in
    subst (λ (x : g.row.T.Denot). (q : WriterNotes g.row.T.Denot) × (put.seat.inner.me ≡ (Writer q, [])) × (q.stage ≡ stage.W5)
    × g.T.Lawful.fits x × g.T.Lawful.rises (last_or q.opening.value q.written) x) (sym named) (
      p,
      put.known,
      put.idle,
      c.requires.lawful.0,
      subst (λ z. g.T.Lawful.rises (last_or z p.written) item) (sym (ap (λ n. n.opening) c.requires.own)) c.requires.lawful.1,
    )

pub bit_of-stored-requires : goal.bit_of-stored-requires
bit_of-stored-requires g c =
    let item : g.row.T.Denot = g.L.Lays.whole c.args.parts.now in
    let put = c.args.put.now in
    let d : WriterNotes g.row.T.Denot = first_writer put.spare.value in
    let p : WriterNotes g.row.T.Denot = writer_or d put.seat.inner.me.0 in
    let is : put.seat.inner.me.0 ≡ Writer p = ap (λ m. m.0) put.known in
    let t = c.begin-reading.ensures.begun p item is (ap (λ z. z ∷ []) c.name-named.ensures) in
    let b : Bool = t.0 in
    let pair : c.other_bit-pair.result ≡ bit_number (not b) = c.other_bit-pair.ensures b t.2 in
    (p.remembered, not b, put.bits, pair)

pub slot_of-slot-requires : goal.slot_of-slot-requires
slot_of-slot-requires g c =
    let item : g.row.T.Denot = g.L.Lays.whole c.args.parts.now in
    let put = c.args.put.now in
    let d : WriterNotes g.row.T.Denot = first_writer put.spare.value in
    let p : WriterNotes g.row.T.Denot = writer_or d put.seat.inner.me.0 in
    let is : put.seat.inner.me.0 ≡ Writer p = ap (λ m. m.0) put.known in
    let t = c.begin-reading.ensures.begun p item is (ap (λ z. z ∷ []) c.name-named.ensures) in
    let b : Bool = t.0 in
    let pair : c.other_bit-pair.result ≡ bit_number (not b) = c.other_bit-pair.ensures b t.2 in
    let other : Bool = not (side p.remembered (not b)) in
    let stored = c.bit_of-stored.ensures p.remembered (not b) put.bits pair in
    let index : c.other_bit-index.result ≡ bit_number other = c.other_bit-index.ensures (side p.remembered (not b)) stored in
    (not b, other, pair, index)

pub set_bit-requires : goal.set_bit-requires
set_bit-requires g c =
    let item : g.row.T.Denot = g.L.Lays.whole c.args.parts.now in
    let put = c.args.put.now in
    let d : WriterNotes g.row.T.Denot = first_writer put.spare.value in
    let p : WriterNotes g.row.T.Denot = writer_or d put.seat.inner.me.0 in
    let is : put.seat.inner.me.0 ≡ Writer p = ap (λ m. m.0) put.known in
    let t = c.begin-reading.ensures.begun p item is (ap (λ z. z ∷ []) c.name-named.ensures) in
    let b : Bool = t.0 in
    let pair : c.other_bit-pair.result ≡ bit_number (not b) = c.other_bit-pair.ensures b t.2 in
    (p.remembered, not b, put.bits, pair)

pub fill-requires-clause-held : goal.fill-requires-clause-held
fill-requires-clause-held g c =
    let item : g.row.T.Denot = g.L.Lays.whole c.args.parts.now in
    let put = c.args.put.now in
    let d : WriterNotes g.row.T.Denot = first_writer put.spare.value in
    let p : WriterNotes g.row.T.Denot = writer_or d put.seat.inner.me.0 in
    let is : put.seat.inner.me.0 ≡ Writer p = ap (λ m. m.0) put.known in
    let t = c.begin-reading.ensures.begun p item is (ap (λ z. z ∷ []) c.name-named.ensures) in
    let b : Bool = t.0 in
    let q : WriterNotes g.row.T.Denot = begun_with p b item t.3 in
    let pair : c.other_bit-pair.result ≡ bit_number (not b) = c.other_bit-pair.ensures b t.2 in
    let other : Bool = not (side p.remembered (not b)) in
    let stored = c.bit_of-stored.ensures p.remembered (not b) put.bits pair in
    let index : c.other_bit-index.result ≡ bit_number other = c.other_bit-index.ensures (side p.remembered (not b)) stored in
    let slot : c.slot_of-slot.result ≡ slot_number q.slot = c.slot_of-slot.ensures (not b) other pair index in
    ap held_slots t.6 ∙ ap (λ z. z ∷ []) (sym slot)

pub publish-requires-clause-filled : goal.publish-requires-clause-filled
publish-requires-clause-filled g c =
    let item : g.row.T.Denot = g.L.Lays.whole c.args.parts.now in
    let put = c.args.put.now in
    let d : WriterNotes g.row.T.Denot = first_writer put.spare.value in
    let p : WriterNotes g.row.T.Denot = writer_or d put.seat.inner.me.0 in
    let is : put.seat.inner.me.0 ≡ Writer p = ap (λ m. m.0) put.known in
    let t = c.begin-reading.ensures.begun p item is (ap (λ z. z ∷ []) c.name-named.ensures) in
    let b : Bool = t.0 in
    let q : WriterNotes g.row.T.Denot = begun_with p b item t.3 in
    let pair : c.other_bit-pair.result ≡ bit_number (not b) = c.other_bit-pair.ensures b t.2 in
    let other : Bool = not (side p.remembered (not b)) in
    let stored = c.bit_of-stored.ensures p.remembered (not b) put.bits pair in
    let index : c.other_bit-index.result ≡ bit_number other = c.other_bit-index.ensures (side p.remembered (not b)) stored in
    let slot : c.slot_of-slot.result ≡ slot_number q.slot = c.slot_of-slot.ensures (not b) other pair index in
    let now = c.fill.ensures.filled in let me0 = ap (λ m. m.0) now ∙ t.5 in let me1 = ap (λ m. m.1) now ∙ (λ i. (slot i, item) ∷ []) in
    (q, (λ i. (me0 i, me1 i)), refl, pair, index, put.shown)

pub invariant_of-put : goal.invariant_of-put
invariant_of-put g c =
    let item : g.row.T.Denot = g.L.Lays.whole c.args.parts.now in
    let put = c.args.put.now in
    let d : WriterNotes g.row.T.Denot = first_writer put.spare.value in
    let p : WriterNotes g.row.T.Denot = writer_or d put.seat.inner.me.0 in
    let is : put.seat.inner.me.0 ≡ Writer p = ap (λ m. m.0) put.known in
    let t = c.begin-reading.ensures.begun p item is (ap (λ z. z ∷ []) c.name-named.ensures) in
    let b : Bool = t.0 in
    let q : WriterNotes g.row.T.Denot = begun_with p b item t.3 in
    let pair : c.other_bit-pair.result ≡ bit_number (not b) = c.other_bit-pair.ensures b t.2 in
    let other : Bool = not (side p.remembered (not b)) in
    let stored = c.bit_of-stored.ensures p.remembered (not b) put.bits pair in
    let index : c.other_bit-index.result ≡ bit_number other = c.other_bit-index.ensures (side p.remembered (not b)) stored in
    let slot : c.slot_of-slot.result ≡ slot_number q.slot = c.slot_of-slot.ensures (not b) other pair index in
    let now = c.fill.ensures.filled in let me0 = ap (λ m. m.0) now ∙ t.5 in let me1 = ap (λ m. m.1) now ∙ (λ i. (slot i, item) ∷ []) in
    let v = c.publish.ensures.published q me0 me1 in let d' : WriterNotes g.row.T.Denot = first_writer put.spare.value in let w = v.7 in
    record {
      known = λ i. ((w ∙ ap (λ z. Writer (writer_or d' z)) (sym w)) i, v.8 i);
      idle = ap (λ z. (writer_or d' z).stage) w;
      bits = ap (λ z. bit_words (writer_or d' z).remembered) w ∙ c.set_bit.ensures p.remembered (not b) other put.bits pair index;
      shown = pair ∙ (λ i. bit_number (writer_or d' (sym w i)).latest);
      newest = ap (λ z. (writer_or d' z).finished.value) w
          ∙ sym (ap (λ z. last_or {T = g.row.T.Denot} (writer_or d' z).opening.value (writer_or d' z).written) w
          ∙ last_snoc p.opening.value p.written item);
    }

pub returns : goal.returns
returns g c =
    let item : g.row.T.Denot = g.L.Lays.whole c.args.parts.now in
    let put = c.args.put.now in
    let d : WriterNotes g.row.T.Denot = first_writer put.spare.value in
    let p : WriterNotes g.row.T.Denot = writer_or d put.seat.inner.me.0 in
    let is : put.seat.inner.me.0 ≡ Writer p = ap (λ m. m.0) put.known in
    let t = c.begin-reading.ensures.begun p item is (ap (λ z. z ∷ []) c.name-named.ensures) in
    let b : Bool = t.0 in
    let q : WriterNotes g.row.T.Denot = begun_with p b item t.3 in
    let pair : c.other_bit-pair.result ≡ bit_number (not b) = c.other_bit-pair.ensures b t.2 in
    let other : Bool = not (side p.remembered (not b)) in
    let stored = c.bit_of-stored.ensures p.remembered (not b) put.bits pair in
    let index : c.other_bit-index.result ≡ bit_number other = c.other_bit-index.ensures (side p.remembered (not b)) stored in
    let slot : c.slot_of-slot.result ≡ slot_number q.slot = c.slot_of-slot.ensures (not b) other pair index in
    let now = c.fill.ensures.filled in let me0 = ap (λ m. m.0) now ∙ t.5 in let me1 = ap (λ m. m.1) now ∙ (λ i. (slot i, item) ∷ []) in
    let v = c.publish.ensures.published q me0 me1 in let w = v.7 in
    let next : IsNextCall p.times (finished_with (stored_by q v.0) v.2 v.1).times =
    record { begin = t.3; end = v.1; after = t.4; forwards = le_trans (le_of_lt v.3) v.4; begins = refl; ends = refl; clock = refl } in
    let few : v.2 ≤ 1 = at_most_one (bit_number (not b)) (bit_number p.latest) v.2 v.5 v.6 in
    let found : bit_number (not b) ≡ bit_number (writer_or d c.publish.new.seat.inner.me.0).latest =
    λ i. bit_number (writer_or d (sym w i)).latest in
    let count : (writer_or d c.publish.new.seat.inner.me.0).accesses ≡ p.accesses + 1 + 1 + v.2 = ap (λ z. (writer_or d z).accesses) w in
    let same : c.publish.new.seat.inner.table_id ≡ put.seat.inner.table_id = search rules in
    record {
      own = (λ i. record { table = same i; opening = (writer_or d (w i)).opening.value }) ∙ c.requires.own;
      written = ap (λ z. (writer_or d z).written) w;
      accesses = omega arith;
      quiet = λ e. let none : v.2 ≡ 0 = v.5 (found ∙ e) in omega arith;
      moved = λ ne. let one : v.2 ≡ 1 = v.6 (λ e. ne (sym found ∙ e)) in omega arith;
      events = ap (λ z. (writer_or d z).events) w ∙ write_joined p.events (W1 (snap item)) W2 W3 W4 W5;
      timed = subst (λ z. IsNextCall p.times (writer_or d z).times) (sym w) next;
    }
