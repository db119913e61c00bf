-- Along the order two steps lower the number of writes that are due.
use Rattle.object_registers.proofs.laws.refused_behind_writes.Goals as goal
use Rattle.object_registers.proofs.Turns.{refused_two}

pub returns : goal.returns
returns c = refused_two
