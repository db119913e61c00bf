-- The first slots of the row were taken, and then those of the column.
use Rattle.std.proofs.Common.{◌≡◌, ◌-◌}
use Rattle.family_triple.proofs.Taking.{Taking}
use Rattle.family_triple.proofs.slots.take_slots.Given as goal

abbrev pub invariant-loop-at : goal.invariant-loop-at
invariant-loop-at g l = (l.seat.inner.table_id ≡ l.fn.seat.inner.table_id)
    × Taking l.fn.table.rows.inner.shared.key.first l.fn.n l.fn.who l.at 0 l.seat.inner.me

abbrev pub invariant-loop-at-2 : goal.invariant-loop-at-2
invariant-loop-at-2 g l = (l.seat.inner.table_id ≡ l.fn.seat.inner.table_id)
    × Taking l.fn.table.rows.inner.shared.key.first l.fn.n l.fn.who (l.fn.n - 1) l.at l.seat.inner.me
