-- Each seat has a process that has done nothing.
use Rattle.std.proofs.Common.{◌≡◌, ◌<◌, length, ap, arith}
use Rattle.std.proofs.lemmas.Option.{slice_get_within}
use Rattle.family_four_slot.proofs.Parting.{first_seat}
use Rattle.family_four_slot.proofs.family.FourSlotFamilyFamily.make.Goals as goal

pub returns-clause-seats : goal.returns-clause-seats
returns-clause-seats g c = (
  c.in_ok-seats.ensures.0,
  λ i s e.
      let long : length c.in_ok-seats.seats.items ≡ c.args.n = omega (arith, c.in_ok-seats.ensures.0) in
      let within : i < length c.in_ok-seats.seats.items = slice_get_within c.in_ok-seats.seats.items i s e in
      let small : i < c.args.n = omega arith in
      let key = c.in_ok-table.ensures.key in
      (first_seat (record { table = c.in_ok-table.table }) c.args.n c.args.first i s (ap (λ z. z.first) key)
      (ap (λ z. z.processes) key) small
      c.requires.processes.1 (c.in_ok-seats.ensures.1 i s e)).0,
)

pub returns-clause-unused : goal.returns-clause-unused
returns-clause-unused g c = λ i s e.
    let long : length c.in_ok-seats.seats.items ≡ c.args.n = omega (arith, c.in_ok-seats.ensures.0) in
    let within : i < length c.in_ok-seats.seats.items = slice_get_within c.in_ok-seats.seats.items i s e in
    let small : i < c.args.n = omega arith in
    let key = c.in_ok-table.ensures.key in
    (first_seat (record { table = c.in_ok-table.table }) c.args.n c.args.first i s (ap (λ z. z.first) key) (ap (λ z. z.processes) key) small
    c.requires.processes.1 (c.in_ok-seats.ensures.1 i s e)).1
