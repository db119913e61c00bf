-- A write shows.
use Rattle.object_registers.proofs.Effects.{write_shows}
use Rattle.object_registers.proofs.limited.LimitedObject.is_pure.Goals as goal

pub returns-in-Writes-clause-exact : goal.returns-in-Writes-clause-exact
returns-in-Writes-clause-exact c h = absurd (write_shows c.args.what _ c.in-Writes.is h)
