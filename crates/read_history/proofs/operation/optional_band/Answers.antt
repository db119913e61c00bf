-- Looked for at once, so that another value is refused at once.
use Rattle.std.proofs.Common.{rules}
use Rattle.read_history.proofs.operation.optional_band.Goals as goal

pub returns-in-Some-band_in : goal.returns-in-Some-band_in
returns-in-Some-band_in c = search rules

pub returns-in-None : goal.returns-in-None
returns-in-None c = search rules
