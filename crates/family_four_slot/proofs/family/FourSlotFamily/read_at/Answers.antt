-- The three steps take the slot that has the answer: one answer more, and each other cell as before.
use Rattle.std.specs.Prelude.{◌||◌}
use Rattle.std.proofs.Common.{◌≡◌, ◌<◌, ◌++◌, ℕ, Bool, true, false, set, refl, sym, ap, ◌∙◌, subst, inl, inr}
use Rattle.four_slot_core.specs.Events.{slot_with}
use Rattle.cell_contract.specs.Running.{last_or}
use Rattle.cell_four_slot.proofs.Slots.{slot_low}
use Rattle.family_table.specs.Seated.{known_by}
use Rattle.family_four_slot.specs.Access.{shown_by}
use Rattle.family_four_slot.specs.Seated.{opening_of, reads_of}
use Rattle.family_four_slot.specs.Words.{HasSlots}
use Rattle.family_four_slot.proofs.Done.{has_read, is_answer}
use Rattle.family_four_slot.proofs.Going.{column_at, column_inside, column_last, column_place, column_reader}
use Rattle.family_four_slot.proofs.Planning.{seat_may_look}
use Rattle.family_four_slot.proofs.SoFar.{seat_so_far}
use Rattle.family_four_slot.proofs.family.FourSlotFamily.read_at.Goals as goal

pub newest-slot-requires-clause-idle : goal.newest-slot-requires-clause-idle
newest-slot-requires-clause-idle g c =
    let f = c.args.self.now in
    let s = c.args.seat.now in
    let own = c.requires.own in
    let other = c.requires.other in
    let cell : ℕ = c.args.cell in
    let column = column_at f s own c.args.from other in
    let there = subst (λ z. HasSlots z column.notes s.seat.inner.me.1) (sym (column_place f s own c.args.from other cell c.requires.at))
    column.slots in (
      known_by s,
      column.notes,
      there.0,
      there.1,
      column_reader f s own c.args.from other cell c.requires.at,
      there.2,
      column.idle,
      column.chosen,
      seat_may_look g.T.Planned.plan f s own c.args.from other cell c.requires.at c.requires.plan,
    )

pub show_where-requires-clause-place : goal.show_where-requires-clause-place
show_where-requires-clause-place g c =
    let f = c.args.self.now in
    let s = c.args.seat.now in
    let own = c.requires.own in
    let other = c.requires.other in
    let h = c.newest-slot.ensures.looked (known_by s) (column_at f s own c.args.from other).notes
    (column_reader f s own c.args.from other c.args.cell c.requires.at) in (
      column_inside f s own c.args.from other c.args.cell c.requires.at,
      subst (λ z. z < 4) (sym h.slot_is) (slot_low (slot_with h.pair h.index)),
    )

pub show_where-requires-clause-held : goal.show_where-requires-clause-held
show_where-requires-clause-held g c =
    let f = c.args.self.now in
    let s = c.args.seat.now in
    let own = c.requires.own in
    let other = c.requires.other in
    let h = c.newest-slot.ensures.looked (known_by s) (column_at f s own c.args.from other).notes
    (column_reader f s own c.args.from other c.args.cell c.requires.at) in
    (h.answer, h.before ++ h.behind, h.after.2)

pub returns-clause-read : goal.returns-clause-read
returns-clause-read g c =
    let f = c.args.self.now in
    let s = c.args.seat.now in
    let own = c.requires.own in
    let other = c.requires.other in
    let cell : ℕ = c.args.cell in
    let at = c.requires.at in
    let slot : ℕ = c.newest-slot.result.0 in
    let moved : Bool = c.newest-slot.result.1 in
    let column = column_at f s own c.args.from other in
    let looked = c.newest-slot.ensures.looked (known_by s) column.notes (column_reader f s own c.args.from other cell at) in
    let h = has_read f s own c.args.from other cell at g.T.Lawful.fits g.T.Lawful.rises c.newest-slot.new.seat.inner.me slot moved
    (record s { seat = c.show_where.new.seat; stored = record s.stored { reads = set s.stored.reads c.args.from slot } }) looked
    c.show_where.ensures.same (c.show_where.ensures.own ∙ c.newest-slot.ensures.own) refl refl refl refl in
    record {
      own = h.own;
      access = h.access;
      answer = looked.answer;
      read = h.answer;
      may = is_answer f s own c.args.from other cell at g.T.Lawful.fits g.T.Lawful.rises looked.answer looked.may;
      saw = is_shown g.L.Sees.sees c.args.again moved c.args.seen.now c.show_where.new.seen looked.answer
          (last_or (opening_of f) (reads_of s c.args.from).answers)
          (λ there. c.show_where.ensures.shown (c.shows.ensures ∙ there) looked.answer (looked.before ++ looked.behind) looked.after.2)
          (λ none. c.show_where.ensures.unshown (c.shows.ensures ∙ none))
          (λ unmoved. looked.again unmoved ∙ column_last f s own c.args.from other);
      others = h.others;
      tags = h.tags;
    } where
      -- a record is shown, or it is the last answer again and need not be
      is_shown : {L T : Type 0} (sees : L → T → L → Type 0) (again moved : Bool) (old new : L) (answer last : T) →
          ((again || moved) ≡ true → sees old answer new) → ((again || moved) ≡ false → new ≡ old) → (moved ≡ false → answer ≡ last) →
          shown_by again sees last old answer new
      is_shown sees true moved old new answer last shown unshown same = shown refl
      is_shown sees false true old new answer last shown unshown same = inl (shown refl)
      is_shown sees false false old new answer last shown unshown same = inr (unshown refl, same refl)

pub returns-clause-so_far : goal.returns-clause-so_far
returns-clause-so_far g c =
    let own = (returns-clause-read g c).own.0 in
    seat_so_far g.T.Planned.plan c.args.self.now _ own
    (c.newest-slot.ensures.shown _ (sym (ap (λ z. z.0) c.show_where.ensures.same) ∙ own.one))
