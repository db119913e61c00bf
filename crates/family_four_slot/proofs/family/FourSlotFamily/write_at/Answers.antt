-- The three steps tell the notes what they did: one write more, and each other cell as before.
use Rattle.std.proofs.Common.{◌≡◌, ◌<◌, ℕ, Bool, not, List, [], ◌∷◌, set, sym, ap, ◌∙◌, subst, refl}
use Rattle.four_slot_core.specs.Events.{side, bit_number, slot_number}
use Rattle.four_slot_core.specs.declared.state.Stage.TheVariants as stage
use Rattle.cell_contract.specs.Running.{last_or, held_slots}
use Rattle.cell_four_slot.specs.Steps.{begun_with, FourSlotSight}
use Rattle.cell_four_slot.specs.declared.notes.WriterNotes.{WriterNotes}
use Rattle.cell_contract.specs.declared.sight.Sight.TheVariants.{Spent, Writer}
use Rattle.cell_four_slot.proofs.Slots.{slot_low}
use Rattle.family_table.specs.declared.notes.Process.{Process}
use Rattle.family_table.specs.Family.{knows}
use Rattle.family_four_slot.specs.Places.{slot_at}
use Rattle.family_table.specs.Seated.{known_by}
use Rattle.family_four_slot.specs.Plans.{plan_of, MayBegin}
use Rattle.family_four_slot.specs.Steps.{After}
use Rattle.family_four_slot.specs.Tables.{HasWriter}
use Rattle.family_four_slot.proofs.Done.{wrote}
use Rattle.family_four_slot.proofs.Going.{after_filled, writer_after, row_at, row_inside, row_long, row_notes, row_writer, row_written}
use Rattle.family_four_slot.proofs.Planning.{seat_may_begin, seat_may_publish}
use Rattle.family_four_slot.proofs.SoFar.{seat_so_far}
use Rattle.family_four_slot.proofs.family.FourSlotFamily.write_at.Goals as goal

pub begin-reading-requires-clause-idle : goal.begin-reading-requires-clause-idle
begin-reading-requires-clause-idle g c =
    let f = c.args.self.now in
    let s = c.args.seat.now in
    let own = c.requires.own in
    let other = c.requires.other in
    let item : g.row.T.Denot = c.args.item.now in
    let cell : ℕ = c.args.cell in
    let at = c.requires.at in
    let v : Process (FourSlotSight g.row.T.Denot) = known_by s in
    let row = row_at f s own c.args.to other in
    let p : WriterNotes g.row.T.Denot = row.notes in
    let long = row_long f s own c.args.to other cell at in
    let named = c.of-named.ensures in
    subst (λ (x : g.row.T.Denot). (v' : Process (FourSlotSight g.row.T.Denot)) × (q : WriterNotes g.row.T.Denot)
    × HasWriter s.seat.inner.me cell v' q
    × (q.stage ≡ stage.W5) × g.T.Lawful.fits x × g.T.Lawful.rises (last_or q.opening.value q.written) x
    × MayBegin (plan_of g.T.Planned.plan f.table.rows.inner.shared.key) cell v' q x) (sym named) (
      v,
      p,
      row_writer f s own c.args.to other cell at,
      row.idle,
      c.requires.lawful.0,
      subst (λ (z : g.row.T.Denot × List g.row.T.Denot). g.T.Lawful.rises (last_or z.0 z.1) item)
          (λ i. ((sym (row.opened ∙ own.opening)) i, row_written f s own c.args.to other i)) c.requires.lawful.1,
      seat_may_begin g.T.Planned.plan f s own c.args.to other cell item at c.requires.plan,
    )

pub bit_of-stored-requires : goal.bit_of-stored-requires
bit_of-stored-requires g c =
    let f = c.args.self.now in
    let s = c.args.seat.now in
    let own = c.requires.own in
    let other = c.requires.other in
    let item : g.row.T.Denot = c.args.item.now in
    let cell : ℕ = c.args.cell in
    let at = c.requires.at in
    let v : Process (FourSlotSight g.row.T.Denot) = known_by s in
    let row = row_at f s own c.args.to other in
    let p : WriterNotes g.row.T.Denot = row.notes in
    let long = row_long f s own c.args.to other cell at in
    let t = c.begin-reading.ensures.begun cell v p item refl own.one (row_notes f s own c.args.to other cell at)
    (ap (λ z. z ∷ []) c.of-named.ensures) in
    let b : Bool = t.0 in
    let q1 : WriterNotes g.row.T.Denot = begun_with p b item t.2 in
    let slot1 : ℕ = slot_at cell (slot_number q1.slot) in
    let pair : c.other_bit-pair.result ≡ bit_number (not b) = c.other_bit-pair.ensures b t.3 in
    (p.remembered, not b, row.bits, pair)

pub slot_of-slot-requires : goal.slot_of-slot-requires
slot_of-slot-requires g c =
    let f = c.args.self.now in
    let s = c.args.seat.now in
    let own = c.requires.own in
    let other = c.requires.other in
    let item : g.row.T.Denot = c.args.item.now in
    let cell : ℕ = c.args.cell in
    let at = c.requires.at in
    let v : Process (FourSlotSight g.row.T.Denot) = known_by s in
    let row = row_at f s own c.args.to other in
    let p : WriterNotes g.row.T.Denot = row.notes in
    let long = row_long f s own c.args.to other cell at in
    let t = c.begin-reading.ensures.begun cell v p item refl own.one (row_notes f s own c.args.to other cell at)
    (ap (λ z. z ∷ []) c.of-named.ensures) in
    let b : Bool = t.0 in
    let q1 : WriterNotes g.row.T.Denot = begun_with p b item t.2 in
    let slot1 : ℕ = slot_at cell (slot_number q1.slot) in
    let pair : c.other_bit-pair.result ≡ bit_number (not b) = c.other_bit-pair.ensures b t.3 in
    let old : Bool = side p.remembered (not b) in
    let stored = c.bit_of-stored.ensures p.remembered (not b) row.bits pair in
    let index : c.other_bit-index.result ≡ bit_number (not old) = c.other_bit-index.ensures old stored in
    (not b, not old, pair, index)

pub fill-requires-clause-place : goal.fill-requires-clause-place
fill-requires-clause-place g c =
    let f = c.args.self.now in
    let s = c.args.seat.now in
    let own = c.requires.own in
    let other = c.requires.other in
    let item : g.row.T.Denot = c.args.item.now in
    let cell : ℕ = c.args.cell in
    let at = c.requires.at in
    let v : Process (FourSlotSight g.row.T.Denot) = known_by s in
    let row = row_at f s own c.args.to other in
    let p : WriterNotes g.row.T.Denot = row.notes in
    let long = row_long f s own c.args.to other cell at in
    let t = c.begin-reading.ensures.begun cell v p item refl own.one (row_notes f s own c.args.to other cell at)
    (ap (λ z. z ∷ []) c.of-named.ensures) in
    let b : Bool = t.0 in
    let q1 : WriterNotes g.row.T.Denot = begun_with p b item t.2 in
    let slot1 : ℕ = slot_at cell (slot_number q1.slot) in
    let pair : c.other_bit-pair.result ≡ bit_number (not b) = c.other_bit-pair.ensures b t.3 in
    let old : Bool = side p.remembered (not b) in
    let stored = c.bit_of-stored.ensures p.remembered (not b) row.bits pair in
    let index : c.other_bit-index.result ≡ bit_number (not old) = c.other_bit-index.ensures old stored in
    let slot : c.slot_of-slot.result ≡ slot_number q1.slot = c.slot_of-slot.ensures (not b) (not old) pair index in
    (row_inside f s own c.args.to other cell at, subst (λ z. z < 4) (sym slot) (slot_low q1.slot))

pub fill-requires-clause-held : goal.fill-requires-clause-held
fill-requires-clause-held g c =
    let f = c.args.self.now in
    let s = c.args.seat.now in
    let own = c.requires.own in
    let other = c.requires.other in
    let item : g.row.T.Denot = c.args.item.now in
    let cell : ℕ = c.args.cell in
    let at = c.requires.at in
    let v : Process (FourSlotSight g.row.T.Denot) = known_by s in
    let row = row_at f s own c.args.to other in
    let p : WriterNotes g.row.T.Denot = row.notes in
    let long = row_long f s own c.args.to other cell at in
    let t = c.begin-reading.ensures.begun cell v p item refl own.one (row_notes f s own c.args.to other cell at)
    (ap (λ z. z ∷ []) c.of-named.ensures) in
    let b : Bool = t.0 in
    let q1 : WriterNotes g.row.T.Denot = begun_with p b item t.2 in
    let slot1 : ℕ = slot_at cell (slot_number q1.slot) in
    let pair : c.other_bit-pair.result ≡ bit_number (not b) = c.other_bit-pair.ensures b t.3 in
    let old : Bool = side p.remembered (not b) in
    let stored = c.bit_of-stored.ensures p.remembered (not b) row.bits pair in
    let index : c.other_bit-index.result ≡ bit_number (not old) = c.other_bit-index.ensures old stored in
    let slot : c.slot_of-slot.result ≡ slot_number q1.slot = c.slot_of-slot.ensures (not b) (not old) pair index in
    (t.1, s.seat.inner.me.1, t.5.2 ∙ ap (λ z. (slot_at cell z, t.1) ∷ s.seat.inner.me.1) (sym slot))

pub publish-requires-clause-filled : goal.publish-requires-clause-filled
publish-requires-clause-filled g c =
    let f = c.args.self.now in
    let s = c.args.seat.now in
    let own = c.requires.own in
    let other = c.requires.other in
    let item : g.row.T.Denot = c.args.item.now in
    let cell : ℕ = c.args.cell in
    let at = c.requires.at in
    let v : Process (FourSlotSight g.row.T.Denot) = known_by s in
    let row = row_at f s own c.args.to other in
    let p : WriterNotes g.row.T.Denot = row.notes in
    let long = row_long f s own c.args.to other cell at in
    let t = c.begin-reading.ensures.begun cell v p item refl own.one (row_notes f s own c.args.to other cell at)
    (ap (λ z. z ∷ []) c.of-named.ensures) in
    let b : Bool = t.0 in
    let q1 : WriterNotes g.row.T.Denot = begun_with p b item t.2 in
    let slot1 : ℕ = slot_at cell (slot_number q1.slot) in
    let pair : c.other_bit-pair.result ≡ bit_number (not b) = c.other_bit-pair.ensures b t.3 in
    let old : Bool = side p.remembered (not b) in
    let stored = c.bit_of-stored.ensures p.remembered (not b) row.bits pair in
    let index : c.other_bit-index.result ≡ bit_number (not old) = c.other_bit-index.ensures old stored in
    let slot : c.slot_of-slot.result ≡ slot_number q1.slot = c.slot_of-slot.ensures (not b) (not old) pair index in
    let a1 : After v cell (Writer q1) t.2 ((slot1, t.1) ∷ s.seat.inner.me.1) c.begin-reading.new.seat.inner.me = t.5 in
    let filled = c.fill.ensures.filled t.1 s.seat.inner.me.1 (t.5.2 ∙ ap (λ z. (slot_at cell z, t.1) ∷ s.seat.inner.me.1) (sym slot))
    ∙ ap (λ z. (c.begin-reading.new.seat.inner.me.0, (slot_at cell z, item) ∷ s.seat.inner.me.1)) slot in
    let a2 : After v cell (Writer q1) t.2 ((slot1, item) ∷ s.seat.inner.me.1) c.fill.new.seat.inner.me =
    after_filled v cell t.2 slot1
    (Writer q1) item t.1 s.seat.inner.me.1 c.begin-reading.new.seat.inner.me c.fill.new.seat.inner.me a1 filled in
    let h1 : List ℕ = held_slots ((slot1, t.1) ∷ s.seat.inner.me.1) in
    let v1 : Process (FourSlotSight g.row.T.Denot) = knows Spent v cell (Writer q1) t.2 h1 in
    let w1 = writer_after v cell t.2 q1 ((slot1, item) ∷ s.seat.inner.me.1) c.fill.new.seat.inner.me long a2 in (
      v1,
      q1,
      s.seat.inner.me.1,
      w1,
      a2.2,
      refl,
      pair,
      index,
      row.shown,
      seat_may_publish g.T.Planned.plan f s own c.args.to other cell item at c.requires.plan b t.2 h1,
    )

pub set_bit-requires : goal.set_bit-requires
set_bit-requires g c =
    let f = c.args.self.now in
    let s = c.args.seat.now in
    let own = c.requires.own in
    let other = c.requires.other in
    let item : g.row.T.Denot = c.args.item.now in
    let cell : ℕ = c.args.cell in
    let at = c.requires.at in
    let v : Process (FourSlotSight g.row.T.Denot) = known_by s in
    let row = row_at f s own c.args.to other in
    let p : WriterNotes g.row.T.Denot = row.notes in
    let long = row_long f s own c.args.to other cell at in
    let t = c.begin-reading.ensures.begun cell v p item refl own.one (row_notes f s own c.args.to other cell at)
    (ap (λ z. z ∷ []) c.of-named.ensures) in
    let b : Bool = t.0 in
    let q1 : WriterNotes g.row.T.Denot = begun_with p b item t.2 in
    let slot1 : ℕ = slot_at cell (slot_number q1.slot) in
    let pair : c.other_bit-pair.result ≡ bit_number (not b) = c.other_bit-pair.ensures b t.3 in
    (p.remembered, not b, row.bits, pair)

pub returns-clause-write : goal.returns-clause-write
returns-clause-write g c =
    let f = c.args.self.now in
    let s = c.args.seat.now in
    let own = c.requires.own in
    let other = c.requires.other in
    let item : g.row.T.Denot = c.args.item.now in
    let cell : ℕ = c.args.cell in
    let at = c.requires.at in
    let v : Process (FourSlotSight g.row.T.Denot) = known_by s in
    let row = row_at f s own c.args.to other in
    let p : WriterNotes g.row.T.Denot = row.notes in
    let long = row_long f s own c.args.to other cell at in
    let t = c.begin-reading.ensures.begun cell v p item refl own.one (row_notes f s own c.args.to other cell at)
    (ap (λ z. z ∷ []) c.of-named.ensures) in
    let b : Bool = t.0 in
    let q1 : WriterNotes g.row.T.Denot = begun_with p b item t.2 in
    let slot1 : ℕ = slot_at cell (slot_number q1.slot) in
    let pair : c.other_bit-pair.result ≡ bit_number (not b) = c.other_bit-pair.ensures b t.3 in
    let old : Bool = side p.remembered (not b) in
    let stored = c.bit_of-stored.ensures p.remembered (not b) row.bits pair in
    let index : c.other_bit-index.result ≡ bit_number (not old) = c.other_bit-index.ensures old stored in
    let slot : c.slot_of-slot.result ≡ slot_number q1.slot = c.slot_of-slot.ensures (not b) (not old) pair index in
    let a1 : After v cell (Writer q1) t.2 ((slot1, t.1) ∷ s.seat.inner.me.1) c.begin-reading.new.seat.inner.me = t.5 in
    let filled = c.fill.ensures.filled t.1 s.seat.inner.me.1 (t.5.2 ∙ ap (λ z. (slot_at cell z, t.1) ∷ s.seat.inner.me.1) (sym slot))
    ∙ ap (λ z. (c.begin-reading.new.seat.inner.me.0, (slot_at cell z, item) ∷ s.seat.inner.me.1)) slot in
    let a2 : After v cell (Writer q1) t.2 ((slot1, item) ∷ s.seat.inner.me.1) c.fill.new.seat.inner.me =
    after_filled v cell t.2 slot1
    (Writer q1) item t.1 s.seat.inner.me.1 c.begin-reading.new.seat.inner.me c.fill.new.seat.inner.me a1 filled in
    let h1 : List ℕ = held_slots ((slot1, t.1) ∷ s.seat.inner.me.1) in
    let v1 : Process (FourSlotSight g.row.T.Denot) = knows Spent v cell (Writer q1) t.2 h1 in
    let w1 = writer_after v cell t.2 q1 ((slot1, item) ∷ s.seat.inner.me.1) c.fill.new.seat.inner.me long a2 in
    let u = c.publish.ensures.published v1 q1 s.seat.inner.me.1 a2.1 w1.notes a2.2 in
    let bits = c.set_bit.ensures p.remembered (not b) (not old) row.bits pair index in
    let same : c.publish.new.seat.inner.table_id ≡ s.seat.inner.table_id =
    c.publish.ensures.own ∙ (c.fill.ensures.own ∙ c.begin-reading.ensures.own) in
    let kept = record s.stored {
      shown = set s.stored.shown c.args.to (record { bits = c.set_bit.new.bits; latest = c.publish.new.shown });
    } in
    let h = wrote f s own c.args.to other cell at b item t.2 u.0 u.1 u.2 h1
    (held_slots s.seat.inner.me.1) c.set_bit.new.bits c.publish.new.shown
    s.seat.inner.me.1 (record s { seat = c.publish.new.seat; stored = kept }) t.5.0 u.5 u.6.0 refl u.6.1 u.6.2 same refl refl refl refl bits
    (c.publish.ensures.remembered ∙ pair) in
    record { own = h.own; access = h.access; written = h.written; others = h.others; tags = h.tags }

pub returns-clause-so_far : goal.returns-clause-so_far
returns-clause-so_far g c =
    let own = (returns-clause-write g c).own.0 in
    seat_so_far g.T.Planned.plan c.args.self.now _ own (c.publish.ensures.shown _ own.one)
