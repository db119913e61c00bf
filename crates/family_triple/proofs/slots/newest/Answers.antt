-- Where the load found the mark the swap decides the read, else the load has.
use Rattle.std.proofs.Common.{◌≤◌, refl, arith}
use Rattle.family_triple.proofs.Looking.{looked_now, asking, asked_reader, asked_slots, fetched_now}
use Rattle.cell_contract.specs.Running.{held_slots}
use Rattle.cell_triple.specs.Steps.{asked_by}
use Rattle.family_triple.specs.Plans.{plan_of}
use Rattle.family_triple.proofs.Plans.{decide_again}
use Rattle.family_triple.proofs.slots.newest.Goals as goal

pub returns-then-found-lt4-clause-looked : goal.returns-then-found-lt4-clause-looked
returns-then-found-lt4-clause-looked g c v q cs reader there low is =
    looked_now g.T.Lawful.fits g.T.Lawful.rises c.args.table.now.rows.inner.shared.table_id.slots c.args.cell c.look-found.result
    c.args.slot v q cs c.args.seat.now.inner.me
    c.look-found.new.seat.inner.me reader there low is c.look-found.ensures.looked (omega (arith, c.if-found-lt4.true))

pub look-found-requires-clause-idle : goal.look-found-requires-clause-idle
look-found-requires-clause-idle g c = let t = c.requires.idle in (t.0, t.1, t.3, t.6, t.9)

pub fetch-middle-requires-clause-marked : goal.fetch-middle-requires-clause-marked
fetch-middle-requires-clause-marked g c =
    let t = c.requires.idle in
    let marked : 4 ≤ c.look-found.result = omega (arith, c.if-found-lt4.false) in (
      asking g.T.Lawful.fits g.T.Lawful.rises c.args.table.now.rows.inner.shared.table_id.slots c.args.cell c.look-found.result c.args.slot
          t.0 t.1 t.2 c.args.seat.now.inner.me
          c.look-found.new.seat.inner.me t.3 t.4 t.7 t.8 c.look-found.ensures.looked,
      asked_by t.1 c.look-found.result,
      t.2,
      asked_reader g.T.Lawful.fits g.T.Lawful.rises c.args.table.now.rows.inner.shared.table_id.slots c.args.cell c.look-found.result
          c.args.slot t.0 t.1 t.2 c.args.seat.now.inner.me
          c.look-found.new.seat.inner.me t.3 t.4 t.7 t.8 c.look-found.ensures.looked marked,
      asked_slots g.T.Lawful.fits g.T.Lawful.rises c.args.table.now.rows.inner.shared.table_id.slots c.args.cell c.look-found.result
          c.args.slot t.0 t.1 t.2 c.args.seat.now.inner.me
          c.look-found.new.seat.inner.me t.3 t.4 t.7 t.8 c.look-found.ensures.looked marked,
      t.5,
      refl,
      t.8,
      decide_again (plan_of g.T.Planned.plan c.args.table.now.rows.inner.shared.key) t.0 c.args.cell c.look-found.result t.1
          (held_slots c.args.seat.now.inner.me.1) t.9,
    )

pub returns-clause-looked : goal.returns-clause-looked
returns-clause-looked g c v q cs reader there low is =
    fetched_now g.T.Lawful.fits g.T.Lawful.rises c.args.table.now.rows.inner.shared.table_id.slots c.args.cell c.look-found.result
    c.args.slot v q cs c.args.seat.now.inner.me
    c.look-found.new.seat.inner.me reader there low is c.look-found.ensures.looked (omega (arith, c.if-found-lt4.false))
    c.fetch-middle.result c.args.slot c.fetch-middle.new.seat.inner.me c.fetch-middle.ensures.swapped

pub look-found-requires-clause-opening : goal.look-found-requires-clause-opening
look-found-requires-clause-opening g c = c.requires.opening

pub fetch-middle-requires-clause-opening : goal.fetch-middle-requires-clause-opening
fetch-middle-requires-clause-opening g c = c.requires.opening

pub returns-then-found-lt4-clause-shown : goal.returns-then-found-lt4-clause-shown
returns-then-found-lt4-clause-shown g c = c.look-found.ensures.shown

pub returns-clause-shown : goal.returns-clause-shown
returns-clause-shown g c = c.fetch-middle.ensures.shown
