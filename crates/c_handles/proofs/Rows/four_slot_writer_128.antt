-- made by c/exports.py
use Rattle.std.proofs.Common.{[], refl}
use mir.Syntax.{ty_named, tnil}
use Rattle.c_handles.proofs.AnyLoose.{Kind}
use Rattle.c_handles.specs.contracts.side.FourSlotWriter128 as sides
use Rattle.c_handles.proofs.side.FourSlotWriter128.TheLaws as laws
use Rattle.c_handles.specs.contracts.handles.four_slot_writer_128.Loose as loose

abbrev pub kind : Kind
kind = record {
  row = sides.the_row;
  laws = laws.the_row_laws;
  written = ty_named (sides.struct.name, []) tnil;
  own = loose.the_type;
  at = λ l. l.at;
  full = λ l. l.full;
  side = λ l. l.side;
  loose = λ p y x. record { at = p; full = y; side = x };
  made = λ p y x. (refl, refl, refl);
}
