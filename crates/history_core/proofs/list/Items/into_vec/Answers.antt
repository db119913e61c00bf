-- Looked for at once, so that another value is refused at once.
use Rattle.std.proofs.Common.{rules}
use Rattle.history_core.proofs.list.Items.into_vec.Goals as goal

pub returns : goal.returns
returns g c = search rules
