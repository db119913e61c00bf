-- Each turn reads one more of the others.
use Rattle.std.proofs.Common.{◌≡◌, ◌+◌, ◌-◌, subst, arith}
use Rattle.cell_contract.specs.Rows.OneByOne.{no_call}
use Rattle.cell_contract.proofs.Rows.{one_after, one_before}
use Rattle.family_four_slot.specs.Seated.{opening_of, processes_of, limit_of}
use Rattle.family_four_slot.proofs.Columns.{Column, Read, column_cell, column_may_after, column_may_before, column_seat}
use Rattle.family_four_slot.proofs.Rows.{row_room}
use Rattle.family_four_slot.proofs.family.FourSlotFamilyFamily.read_all_from.Goals as goal

pub loop-from-init : goal.loop-from-init
loop-from-init g c = (no_call, λ some. absurd (omega (arith, some)))

pub loop-from-preserved : goal.loop-from-preserved
loop-from-preserved g c =
    let l = c.loop-from in (
      one_before (Read c.args.self.now g.T.Lawful.fits g.T.Lawful.rises g.L.Sees.sees) c.args.seat.now.who
          (c.args.seat.now, c.args.seen.now) (l.seat, l.seen)
          (c.read_at.new.seat, c.read_at.new.seen) l.from l.invariant.0 c.loop-from-test.true c.read_at.ensures.read,
      λ _. c.read_at.ensures.so_far,
    )

pub loop-from-2-init : goal.loop-from-2-init
loop-from-2-init g c =
    let l = c.loop-from in
    let e : l.from ≡ c.args.seat.now.who + 1 - 1 = omega (arith, c.loop-from-test.false, l.auto.from-end) in (
      subst
          (λ z. Column c.args.self.now g.T.Lawful.fits g.T.Lawful.rises g.L.Sees.sees c.args.seat.now c.args.seen.now z (l.seat, l.seen)) e
          l.invariant.0,
      λ some. l.invariant.1 (omega (arith, e, some)),
    )

pub loop-from-2-preserved : goal.loop-from-2-preserved
loop-from-2-preserved g c =
    let l = c.loop-from-2 in
    let call = c.read_at-in-loop-from-2 in (
      one_after (Read c.args.self.now g.T.Lawful.fits g.T.Lawful.rises g.L.Sees.sees) c.args.seat.now.who
          (c.args.seat.now, c.args.seen.now) (l.seat, l.seen) (call.new.seat, call.new.seen) l.from l.invariant.0
          (omega (arith, l.auto.from)) call.ensures.read,
      λ _. call.ensures.so_far,
    )

pub returns : goal.returns
returns g c =
    let l = c.loop-from-2 in
    let same : c.args.seat.now.processes ≡ processes_of c.args.self.now = c.requires.own.processes in
    let e : l.from - 1 ≡ processes_of c.args.self.now - 1 = omega (arith, same, c.loop-from-2-test.false, l.auto.from, l.auto.from-end) in
    let two = c.args.self.now.table.rows.some.0 in
    record {
      column = subst (λ z. Column c.args.self.now g.T.Lawful.fits g.T.Lawful.rises g.L.Sees.sees c.args.seat.now c.args.seen.now z
          (l.seat, l.seen)) e l.invariant.0;
      so_far = l.invariant.1 (omega (arith, e, two));
    }

pub place-requires : goal.place-requires
place-requires g c =
    let room = row_room c.args.self.now c.args.seat.now c.requires.own in
    (room.0, omega (arith, room.1, c.loop-from-test.true), room.1)

pub read_at-requires-clause-own : goal.read_at-requires-clause-own
read_at-requires-clause-own g c =
    let l = c.loop-from in
    (column_seat c.args.self.now g.T.Lawful.fits g.T.Lawful.rises g.L.Sees.sees c.args.seat.now c.args.seen.now l.from l.seat l.seen
    c.requires.own l.invariant.0).0

pub read_at-requires-clause-other : goal.read_at-requires-clause-other
read_at-requires-clause-other g c =
    let l = c.loop-from in
    let room = row_room c.args.self.now c.args.seat.now c.requires.own in
    let here = column_seat c.args.self.now g.T.Lawful.fits g.T.Lawful.rises g.L.Sees.sees c.args.seat.now c.args.seen.now l.from l.seat
    l.seen c.requires.own l.invariant.0 in
    let who : l.seat.who ≡ c.args.seat.now.who = here.1 in
    let same : c.args.seat.now.processes ≡ processes_of c.args.self.now = c.requires.own.processes in (
      omega (arith, same, room.1, c.loop-from-test.true),
      λ e. let z : l.from ≡ l.seat.who = e in omega (arith, z, who, c.loop-from-test.true),
    )

pub read_at-requires-clause-at : goal.read_at-requires-clause-at
read_at-requires-clause-at g c =
    let l = c.loop-from in
    column_cell c.args.self.now g.T.Lawful.fits g.T.Lawful.rises g.L.Sees.sees c.args.seat.now c.args.seen.now l.from l.seat l.seen
    c.requires.own l.invariant.0
    c.place.result l.from c.place.ensures

pub place-requires-in-loop-from-2 : goal.place-requires-in-loop-from-2
place-requires-in-loop-from-2 g c =
    let room = row_room c.args.self.now c.args.seat.now c.requires.own in (room.0, c.loop-from-2-test.true, room.1)

pub read_at-requires-in-loop-from-2-clause-own : goal.read_at-requires-in-loop-from-2-clause-own
read_at-requires-in-loop-from-2-clause-own g c =
    let l = c.loop-from-2 in
    (column_seat c.args.self.now g.T.Lawful.fits g.T.Lawful.rises g.L.Sees.sees c.args.seat.now c.args.seen.now
    (l.from - 1) l.seat l.seen c.requires.own l.invariant.0).0

pub read_at-requires-in-loop-from-2-clause-other : goal.read_at-requires-in-loop-from-2-clause-other
read_at-requires-in-loop-from-2-clause-other g c =
    let l = c.loop-from-2 in
    let here = column_seat c.args.self.now g.T.Lawful.fits g.T.Lawful.rises g.L.Sees.sees c.args.seat.now c.args.seen.now
    (l.from - 1) l.seat l.seen c.requires.own l.invariant.0 in
    let who : l.seat.who ≡ c.args.seat.now.who = here.1 in
    let same : c.args.seat.now.processes ≡ processes_of c.args.self.now = c.requires.own.processes in
    (omega (arith, same, c.loop-from-2-test.true), λ e. let z : l.from ≡ l.seat.who = e in omega (arith, z, who, l.auto.from))

pub read_at-requires-in-loop-from-2-clause-at : goal.read_at-requires-in-loop-from-2-clause-at
read_at-requires-in-loop-from-2-clause-at g c =
    let l = c.loop-from-2 in
    column_cell c.args.self.now g.T.Lawful.fits g.T.Lawful.rises g.L.Sees.sees c.args.seat.now c.args.seen.now
    (l.from - 1) l.seat l.seen c.requires.own l.invariant.0
    c.place-in-loop-from-2.result l.from c.place-in-loop-from-2.ensures

pub read_at-requires-clause-plan : goal.read_at-requires-clause-plan
read_at-requires-clause-plan g c =
    let l = c.loop-from in
    column_may_before c.args.self.now g.T.Lawful.fits g.T.Lawful.rises g.L.Sees.sees c.args.seat.now c.args.seen.now
    (g.T.Planned.plan (opening_of c.args.self.now) 3 (processes_of c.args.self.now) (limit_of c.args.self.now))
    c.requires.plan c.requires.own l.seat l.seen l.from l.invariant.0 c.loop-from-test.true

pub read_at-requires-in-loop-from-2-clause-plan : goal.read_at-requires-in-loop-from-2-clause-plan
read_at-requires-in-loop-from-2-clause-plan g c =
    let l = c.loop-from-2 in
    let same : c.args.seat.now.processes ≡ processes_of c.args.self.now = c.requires.own.processes in
    column_may_after c.args.self.now g.T.Lawful.fits g.T.Lawful.rises g.L.Sees.sees c.args.seat.now c.args.seen.now
    (g.T.Planned.plan (opening_of c.args.self.now) 3 (processes_of c.args.self.now) (limit_of c.args.self.now))
    c.requires.plan c.requires.own l.seat l.seen l.from l.invariant.0 (omega (arith, l.auto.from))
    (omega (arith, same, c.loop-from-2-test.true))
