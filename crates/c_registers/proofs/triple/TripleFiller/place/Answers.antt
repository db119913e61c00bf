-- The pass has what its own call says.
use Rattle.std.proofs.Common.{refl}
use Rattle.c_registers.proofs.triple.TripleFiller.place.Goals as goal

pub returns : goal.returns
returns g c = ((refl, λ w. refl), record { lent = tt; value = c.place.ensures.value })
