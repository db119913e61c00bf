-- Each is a part of the name.
use Rattle.theorem_uses.proofs.Handed.{of_cells}
use Rattle.theorem_uses.proofs.handles.passes_of_cells_show.Goals as goal

pub returns : goal.returns
returns g c = of_cells
