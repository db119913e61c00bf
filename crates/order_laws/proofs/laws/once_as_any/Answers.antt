-- By the kind.
use Rattle.order_laws.proofs.OnceLemmas.{once_as_any}
use Rattle.order_laws.proofs.laws.once_as_any.Goals as goal

pub returns : goal.returns
returns c = once_as_any
