-- The first load is told the record of the write.
use Rattle.std.proofs.Common.{[], ◌∷◌}
use Rattle.cell_four_slot.proofs.cell.FourSlotCell.write_laid.Given as goal

abbrev pub ghosts-begin : goal.ghosts-begin
ghosts-begin g a = record { item = a.item.value ∷ [] }
