-- Along the order the record changes to the one that was found.
use Rattle.object_registers.proofs.Turns.{found_made}
use Rattle.object_registers.proofs.laws.found_is_made.Goals as goal

pub returns : goal.returns
returns c = found_made
