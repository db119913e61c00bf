-- Each turn writes to one more of the others.
use Rattle.std.proofs.Common.{◌≡◌, ◌+◌, ◌-◌, subst, arith}
use Rattle.cell_contract.specs.Rows.{IsWriteTo}
use Rattle.cell_contract.specs.Rows.OneByOne.{no_call}
use Rattle.cell_contract.proofs.Rows.{one_after, one_before}
use Rattle.family_table.specs.Seated.{number_of, clock_of, times_of, said_of, found_of}
use Rattle.family_triple.specs.Seated.{opening_of, processes_of, limit_of, writes_of, reads_of, IsSeat}
use Rattle.family_triple.proofs.Rows.{Row, row_after, row_before, row_may_after, row_may_before, row_room, row_seat}
use Rattle.family_triple.proofs.family.TripleFamilyFamily.write_all_from.Goals as goal

pub loop-to-init : goal.loop-to-init
loop-to-init g c = (no_call, λ some. absurd (omega (arith, some)))

pub loop-to-preserved : goal.loop-to-preserved
loop-to-preserved g c = (
  one_before (IsWriteTo (IsSeat c.args.self.now) number_of clock_of times_of writes_of reads_of said_of found_of 1 c.args.item.now)
      c.args.seat.now.who
      c.args.seat.now c.loop-to.seat c.write_from.new.seat c.loop-to.to c.loop-to.invariant.0 c.loop-to-test.true (record {
        own = c.write_from.ensures.own;
        access = c.write_from.ensures.access;
        written = c.write_from.ensures.written;
        others = c.write_from.ensures.others;
        tags = c.write_from.ensures.tags;
      }),
  λ _. c.write_from.ensures.so_far,
)

pub loop-to-2-init : goal.loop-to-2-init
loop-to-2-init g c =
    let e : c.loop-to.to ≡ c.args.seat.now.who + 1 - 1 = omega (arith, c.loop-to-test.false, c.loop-to.auto.to-end) in (
      subst (λ z. Row c.args.self.now c.args.item.now c.args.seat.now z c.loop-to.seat) e c.loop-to.invariant.0,
      λ some. c.loop-to.invariant.1 (omega (arith, e, some)),
    )

pub loop-to-2-preserved : goal.loop-to-2-preserved
loop-to-2-preserved g c =
    let l = c.loop-to-2 in
    let call = c.write_from-in-loop-to-2 in (
      one_after (IsWriteTo (IsSeat c.args.self.now) number_of clock_of times_of writes_of reads_of said_of found_of 1 c.args.item.now)
          c.args.seat.now.who
          c.args.seat.now l.seat call.new.seat l.to l.invariant.0 (omega (arith, l.auto.to))
          (record {
            own = call.ensures.own;
            access = call.ensures.access;
            written = call.ensures.written;
            others = call.ensures.others;
            tags = call.ensures.tags;
          }),
      λ _. call.ensures.so_far,
    )

pub returns : goal.returns
returns g c =
    let l = c.loop-to-2 in
    let s = c.args.seat.now in
    let same : s.processes ≡ processes_of c.args.self.now = c.requires.own.processes in
    let e : l.to - 1 ≡ processes_of c.args.self.now - 1 = omega (arith, same, c.loop-to-2-test.false, l.auto.to, l.auto.to-end) in
    let two = c.args.self.now.table.rows.some.0 in
    record {
      row = subst (λ z. Row c.args.self.now c.args.item.now s z l.seat) e l.invariant.0;
      so_far = l.invariant.1 (omega (arith, e, two));
    }

pub write_from-requires-clause-own : goal.write_from-requires-clause-own
write_from-requires-clause-own g c =
    (row_seat c.args.self.now c.args.item.now c.args.seat.now c.loop-to.to c.loop-to.seat c.requires.own c.loop-to.invariant.0).0

pub write_from-requires-clause-other : goal.write_from-requires-clause-other
write_from-requires-clause-other g c =
    let room = row_room c.args.self.now c.args.seat.now c.requires.own in
    let here = row_seat c.args.self.now c.args.item.now c.args.seat.now c.loop-to.to c.loop-to.seat c.requires.own c.loop-to.invariant.0 in
    let who : c.loop-to.seat.who ≡ c.args.seat.now.who = here.1 in
    let same : c.args.seat.now.processes ≡ processes_of c.args.self.now = c.requires.own.processes in (
      omega (arith, same, room.1, c.loop-to-test.true),
      λ e. let z : c.loop-to.to ≡ c.loop-to.seat.who = e in omega (arith, z, who, c.loop-to-test.true),
    )

pub write_from-requires-clause-lawful : goal.write_from-requires-clause-lawful
write_from-requires-clause-lawful g c =
    let room = row_room c.args.self.now c.args.seat.now c.requires.own in
    let same : c.args.seat.now.processes ≡ processes_of c.args.self.now = c.requires.own.processes in
    let l = c.loop-to-test.true in (
      c.requires.lawful,
      row_before c.args.self.now c.args.item.now c.args.seat.now g.T.Lawful.rises c.loop-to.seat c.loop-to.to
          c.loop-to.invariant.0 l (c.requires.rises c.loop-to.to (omega (arith, same, room.1, l))
          (λ e. let z : c.loop-to.to ≡ c.args.seat.now.who = e in omega (arith, z, l))),
    )

pub write_from-requires-in-loop-to-2-clause-own : goal.write_from-requires-in-loop-to-2-clause-own
write_from-requires-in-loop-to-2-clause-own g c =
    (row_seat c.args.self.now c.args.item.now c.args.seat.now (c.loop-to-2.to - 1) c.loop-to-2.seat c.requires.own
    c.loop-to-2.invariant.0).0

pub write_from-requires-in-loop-to-2-clause-other : goal.write_from-requires-in-loop-to-2-clause-other
write_from-requires-in-loop-to-2-clause-other g c =
    let l = c.loop-to-2 in
    let here = row_seat c.args.self.now c.args.item.now c.args.seat.now (l.to - 1) l.seat c.requires.own l.invariant.0 in
    let who : l.seat.who ≡ c.args.seat.now.who = here.1 in
    let same : c.args.seat.now.processes ≡ processes_of c.args.self.now = c.requires.own.processes in
    (omega (arith, same, c.loop-to-2-test.true), λ e. let z : l.to ≡ l.seat.who = e in omega (arith, z, who, l.auto.to))

pub write_from-requires-in-loop-to-2-clause-lawful : goal.write_from-requires-in-loop-to-2-clause-lawful
write_from-requires-in-loop-to-2-clause-lawful g c =
    let l = c.loop-to-2 in
    let same : c.args.seat.now.processes ≡ processes_of c.args.self.now = c.requires.own.processes in (
      c.requires.lawful,
      row_after c.args.self.now c.args.item.now c.args.seat.now g.T.Lawful.rises l.seat l.to l.invariant.0
          (omega (arith, l.auto.to)) (c.requires.rises l.to (omega (arith, same, c.loop-to-2-test.true))
          (λ e. let z : l.to ≡ c.args.seat.now.who = e in omega (arith, z, l.auto.to))),
    )

pub write_from-requires-clause-plan : goal.write_from-requires-clause-plan
write_from-requires-clause-plan g c =
    let l = c.loop-to in
    row_may_before c.args.self.now c.args.item.now c.args.seat.now
    (g.T.Planned.plan (opening_of c.args.self.now) 1 (processes_of c.args.self.now) (limit_of c.args.self.now))
    c.requires.plan c.requires.own l.seat l.to l.invariant.0 c.loop-to-test.true

pub write_from-requires-in-loop-to-2-clause-plan : goal.write_from-requires-in-loop-to-2-clause-plan
write_from-requires-in-loop-to-2-clause-plan g c =
    let l = c.loop-to-2 in
    let same : c.args.seat.now.processes ≡ processes_of c.args.self.now = c.requires.own.processes in
    row_may_after c.args.self.now c.args.item.now c.args.seat.now
    (g.T.Planned.plan (opening_of c.args.self.now) 1 (processes_of c.args.self.now) (limit_of c.args.self.now))
    c.requires.plan c.requires.own l.seat l.to l.invariant.0 (omega (arith, l.auto.to)) (omega (arith, same, c.loop-to-2-test.true))
