-- What a seat and the two passes are when what they lent is back (this project's own).
use Rattle.std.specs.Prelude.{◌≡◌, ℕ, ◌∷◌, get_or}
use Rattle.std.proofs.Common.{ap}
use Rattle.cell_contract.specs.Running.{held_slots}
use Rattle.cell_contract.proofs.ListLaws.{none_behind}
use Rattle.atomic_table.specs.Lent.{seat_with as with_slot}
use Rattle.cell_triple.specs.declared.table.TripleSeat.{TripleSeat}
use Rattle.cell_triple.specs.declared.cell.TripleGet.{TripleGet}
use Rattle.cell_triple.specs.declared.cell.TriplePut.{TriplePut}

module _ {T : Type 0} where
  -- the seat with x in the slot
  abbrev pub seat_with : TripleSeat T → ℕ → T → TripleSeat T
  seat_with s k x = record { inner = with_slot s.inner k x }

  -- the second pass is the first one: it knows the same, and holds the same record in the same slot
  pub record IsSame (g h : TripleGet T) : Type 0 where
    pub table : h.seat.inner.table_id ≡ g.seat.inner.table_id
    pub me : h.seat.inner.me ≡ g.seat.inner.me
    pub slot : h.slot ≡ g.slot
    pub spare : h.spare ≡ g.spare

  -- the record in the slot that the writer's pass holds, of which the default is never taken
  abbrev pub placed_by : TriplePut T → T
  placed_by p = (get_or p.seat.inner.me.1 0 (p.slot, p.spare.value)).1

  -- the writer's pass with x in its slot: it knows the same, and holds the same slot and no other
  abbrev pub put_with : TriplePut T → T → TriplePut T
  put_with p x = record p {
    seat = seat_with p.seat p.slot x;
    held = ap (λ cs. p.slot ∷ held_slots cs) (none_behind p.seat.inner.me.1 p.slot p.held);
  }
