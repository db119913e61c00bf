-- A seat whose token is as it was is as it was.
use Rattle.std.proofs.Common.{◌≡◌}
use Rattle.family_table.specs.declared.processes.ProcessSeat.{ProcessSeat}
use Rattle.family_table.specs.declared.table.FamilySeat.{FamilySeat}

pub same_seat : {T V X : Type 0} (s : ProcessSeat T V X) (inner : FamilySeat T V) → inner.inner.table_id ≡ s.seat.inner.table_id →
    inner.inner.id ≡ s.seat.inner.id → inner.inner.me ≡ s.seat.inner.me → record s { seat = inner } ≡ s
same_seat s inner table id me =
    λ i. record s { seat = record inner { inner = record inner.inner { table_id = table i; id = id i; me = me i } } }
