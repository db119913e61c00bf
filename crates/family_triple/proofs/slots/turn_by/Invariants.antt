-- So many of the first slots are behind the others.
use Rattle.std.proofs.Common.{◌≡◌, ℕ, List, ◌++◌, length}
use Rattle.family_triple.proofs.slots.turn_by.Given as goal

abbrev pub invariant-loop : goal.invariant-loop
invariant-loop g l = (l.seat.inner.table_id ≡ l.fn.seat.inner.table_id) × (l.seat.inner.me.0 ≡ l.fn.seat.inner.me.0)
    × ((front back : List (ℕ × g.row.T.Denot)) → l.fn.seat.inner.me.1 ≡ front ++ back → length front ≡ l.counter →
    l.seat.inner.me.1 ≡ back ++ front)
