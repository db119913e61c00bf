-- Each seat has a process that has done nothing.
use Rattle.std.proofs.Common.{ap}
use Rattle.family_triple.proofs.Parting.{first_seat}
use Rattle.family_triple.proofs.family.TripleFamilyFamily.make.Goals as goal

pub returns-clause-seats : goal.returns-clause-seats
returns-clause-seats g c = (
  c.in_ok-seats.ensures.0,
  λ i s e. let key = c.in_ok-table.ensures.key in
      (first_seat (record { table = c.in_ok-table.table }) c.args.n c.args.first i s (ap (λ z. z.first) key) (ap (λ z. z.processes) key)
      (c.in_ok-seats.ensures.1 i s e)).0,
)

pub returns-clause-unused : goal.returns-clause-unused
returns-clause-unused g c = λ i s e. let key = c.in_ok-table.ensures.key in
    (first_seat (record { table = c.in_ok-table.table }) c.args.n c.args.first i s (ap (λ z. z.first) key) (ap (λ z. z.processes) key)
    (c.in_ok-seats.ensures.1 i s e)).1
